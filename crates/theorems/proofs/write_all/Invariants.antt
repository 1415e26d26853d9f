use Rattle.std.proofs.Common.{◌++◌, ℕ, Option, List, take, map}
use Rattle.std.specs.List.{concat}
use Rattle.twox_hash.specs.Represents.{Represents}
use Rattle.theorems.proofs.write_all.Given as goal

-- Invariant: the core represents the list that it represented at the start and then the chunks so far.
abbrev pub invariant-loop-piece : goal.invariant-loop-piece
invariant-loop-piece g l = (seed : Option ℕ) (s m : List ℕ) → Represents g.S.FixedBuffer.bytes l.initial.core seed s m
    → Represents g.S.FixedBuffer.bytes l.core seed s (m ++ concat (map (λ piece. piece.1.now) (take l.piece-index l.pieces)))
