use Rattle.std.proofs.Common.{◌≡◌, ◌++◌, ℕ, List, length, false}
use Rattle.xxh_program.specs.Blocks.{added_lines}
use Rattle.xxh_program.specs.BlockState.{HasTaken}
use Rattle.xxh_io.specs.Waiting.{Gathers, waiting_bytes}
use Rattle.xxh_program.proofs.program.blocks.CurrentBlock.take.Given as goal

-- Invariant: the bytes before the rest were taken, the lines of the blocks that they complete were written or are
-- buffered, and no write has failed
abbrev pub invariant-loop-rest : goal.invariant-loop-rest
invariant-loop-rest g l = record {
  works : g.W.Sink.has_failed l.w ≡ false;
  same : l.self.size ≡ l.fn.self.size;
  done : List ℕ;
  cut : l.fn.piece ≡ done ++ l.rest;
  follows : (m : List ℕ) → HasTaken l.fn.self m → HasTaken l.self (m ++ done);
  wrote : (m : List ℕ) → HasTaken l.fn.self m → Gathers g.W.Sink (added_lines l.fn.self.size m done) l.fn.w l.w (waiting_bytes l.lines);
}

abbrev pub decreases-loop-rest : goal.decreases-loop-rest
decreases-loop-rest g l = length l.rest
