use Rattle.std.proofs.Common.{rules}
use Rattle.xxh_io.specs.Waiting.{waiting_bytes}
use Rattle.xxhsum_program.proofs.EprintFacts.{TakesOrFails-failed, TakesOrFails-write}
use Rattle.xxhsum_program.proofs.progress.eprint_once.Goals as goal

pub returns-then-not-failed : goal.returns-then-not-failed
returns-then-not-failed g c = λ initial before message.
    TakesOrFails-write g.E.Sink before (waiting_bytes c.args.line) initial _ _ c.flush.result (search rules) message c.flush.ensures.writes c.flush.ensures.only c.flush.ensures.write_failed

pub returns-else-not-failed : goal.returns-else-not-failed
returns-else-not-failed g c = λ initial before message.
    TakesOrFails-failed g.E.Sink before (waiting_bytes c.args.line) initial _ (search rules) message
