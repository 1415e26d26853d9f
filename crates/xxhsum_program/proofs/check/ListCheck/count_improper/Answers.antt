use Rattle.std.proofs.Common.{refl}
use Rattle.xxhsum_program.proofs.check.ListCheck.count_improper.Goals as goal

pub returns-then-self-clause-emits : goal.returns-then-self-clause-emits
returns-then-self-clause-emits g c =
    rw c.if-self.true (c.report_line.new.streams, c.report_line.ensures.reports, (refl, refl))

pub returns-else-self-clause-emits : goal.returns-else-self-clause-emits
returns-else-self-clause-emits g c = rw c.if-self.false (refl, refl)
