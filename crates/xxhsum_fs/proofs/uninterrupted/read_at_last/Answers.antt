use Rattle.std.proofs.Common.{arith, inr}
use Rattle.xxhsum_fs.proofs.uninterrupted.read_at_last.Goals as goal

-- Each of the 2^64 - 1 calls was interrupted.
pub returns-clause-calls : goal.returns-clause-calls
returns-clause-calls g c = inr (c.loop-turn.turn, omega arith, c.loop-turn.invariant.1, c.from.ensures)
