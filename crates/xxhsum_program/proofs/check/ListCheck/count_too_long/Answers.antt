use Rattle.std.proofs.Common.{refl}
use Rattle.xxhsum_program.proofs.check.ListCheck.count_too_long.Goals as goal

pub returns-clause-emits : goal.returns-clause-emits
returns-clause-emits g c = (c.report_line.new.streams, c.report_line.ensures.reports, (refl, refl))
