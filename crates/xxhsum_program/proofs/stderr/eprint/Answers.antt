use Rattle.std.proofs.Common.{rules}
use Rattle.xxhsum_program.proofs.EprintFacts.{TakesOrFails-failed, TakesOrFails-write}
use Rattle.xxhsum_program.proofs.stderr.eprint.Goals as goal

pub returns-then-not-failed : goal.returns-then-not-failed
returns-then-not-failed g c = λ initial before message.
    TakesOrFails-write g.E.Sink before c.args.bytes.now initial _ _ c.write_all.result (search rules) message c.write_all.ensures.writes c.write_all.ensures.only c.write_all.ensures.write_failed

pub returns-else-not-failed : goal.returns-else-not-failed
returns-else-not-failed g c = λ initial before message.
    TakesOrFails-failed g.E.Sink before c.args.bytes.now initial _ (search rules) message
