-- Invariant: the buffer keeps its length, and each call so far was interrupted
use Rattle.std.proofs.Common.{◌≡◌, length}
use Rattle.xxhsum_fs.specs.Uninterrupted.{AreInterrupted}
use Rattle.xxhsum_fs.proofs.uninterrupted.read_at_last.Given as goal

abbrev pub invariant-loop-turn : goal.invariant-loop-turn
invariant-loop-turn g l =
    (length l.buf ≡ length l.initial.buf) × AreInterrupted g.R.ReadCall l.turn l.initial.reader l.reader
