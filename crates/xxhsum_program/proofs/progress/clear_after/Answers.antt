use Rattle.xxhsum_program.proofs.ProgressFacts.{cleared-after}
use Rattle.xxhsum_program.proofs.progress.clear_after.Goals as goal

pub returns-then-count-ge-STEP : goal.returns-then-count-ge-STEP
returns-then-count-ge-STEP g c =
    rw (cleared-after c.args.count c.if-count-ge-STEP.true) c.eprint.ensures
