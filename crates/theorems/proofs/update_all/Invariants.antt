use Rattle.std.proofs.Common.{◌++◌, ℕ, Option, List, take}
use Rattle.theorems.specs.Values.{joined}
use Rattle.theorems.proofs.update_all.Given as goal

-- Invariant: the hasher follows the list that it followed at the start and then the chunks so far.
abbrev pub invariant-loop-piece : goal.invariant-loop-piece
invariant-loop-piece g l = (seed : Option ℕ) (s m : List ℕ) → g.H.StreamingHasher.follows l.initial.hasher seed s m
    → g.H.StreamingHasher.follows l.hasher seed s (m ++ joined (take l.piece-index l.pieces))
