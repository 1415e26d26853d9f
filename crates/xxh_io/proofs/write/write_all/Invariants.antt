use Rattle.std.proofs.Common.{◌≡◌, ◌++◌, ℕ, List, length, false}
use Rattle.std.specs.List.{concat}
use Rattle.xxh_io.specs.Pieces.{Pieces}
use Rattle.xxh_io.proofs.write.write_all.Given as goal

-- Invariant: chunks of the bytes before the rest were taken, and no write has failed
abbrev pub invariant-loop-rest : goal.invariant-loop-rest
invariant-loop-rest g l = record {
  works : g.W.Sink.has_failed l.w ≡ false;
  taken : List (List ℕ);
  wrote : Pieces g.W.Sink.takes l.initial.w taken l.w;
  left : l.fn.bytes ≡ concat taken ++ l.rest;
}

abbrev pub decreases-loop-rest : goal.decreases-loop-rest
decreases-loop-rest g l = length l.rest
