use Rattle.xxhsum_program.proofs.Prelude.{Checked, Unopened, refl, source_of}
use Rattle.xxhsum_program.proofs.StopFacts.{answers-outcome}
use Rattle.xxhsum_program.proofs.check.check_named.Goals as goal

pub returns-in-Ok-clause-checks : goal.returns-in-Ok-clause-checks
returns-in-Ok-clause-checks g c =
    let checks = c.check.ensures.checks in
    (Checked checks.0 checks.1, (source_of c.in-Ok.file, c.in-Ok.ensures.opens, checks.2), answers-outcome c.args.context.now.options checks.0 checks.1 c.check.result checks.3, checks.4)

pub returns-in-Err-clause-checks : goal.returns-in-Err-clause-checks
returns-in-Err-clause-checks g c =
    (Unopened c.in-Err.refusal, c.in-Err.ensures.refuses, (tt, refl), (c.report.new.self, rw c.text.ensures.text at c.report.ensures.reports, (refl, refl)))
