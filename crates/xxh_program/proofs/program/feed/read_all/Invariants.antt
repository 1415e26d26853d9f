use Rattle.std.proofs.Common.{◌≡◌, ℕ, List, length, false}
use Rattle.std.specs.List.{concat}
use Rattle.xxh_io.specs.Pieces.{Pieces, NoneEmpty}
use Rattle.xxh_program.specs.Feeding.{IsFed}
use Rattle.xxh_program.proofs.program.feed.read_all.Given as goal

-- Invariant: each iteration has read one nonempty chunk and fed it to the hasher, and no read has failed
abbrev pub invariant-loop-turn : goal.invariant-loop-turn
invariant-loop-turn g l = record {
  works : g.R.Source.has_failed l.r ≡ false;
  pieces : List (List ℕ);
  count : length pieces ≡ l.turn;
  some : NoneEmpty pieces;
  read : Pieces g.R.Source.gives l.initial.r pieces l.r;
  fed : IsFed g.H.Feed.follows g.H.Feed.has_seed l.initial.hasher (concat pieces) l.hasher;
}
