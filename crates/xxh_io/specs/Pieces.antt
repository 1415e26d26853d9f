-- Chunks of bytes that are read or written, from one state of a stream to another. `step old piece new` is one read or
-- write of the chunk that leads from old to new.
use Rattle.std.specs.Prelude.{◌≡◌, ℕ, ◌<◌, List, [], ◌∷◌, ◌++◌, length}
use Rattle.std.specs.List.{AllByRecursion}

-- one read or write of a chunk: the states that it leads from and to
abbrev pub Step : Type 0 → Type 1
Step S = S → List ℕ → S → Type 0

-- the chunks, one step each, lead from old to new
abbrev pub Pieces : {S : Type 0} → Step S → S → List (List ℕ) → S → Type 0
Pieces step old [] new = new ≡ old
Pieces {S} step old (piece ∷ pieces) new =
    (mid : S) × step old piece mid × Pieces step mid pieces new

-- no chunk is empty
abbrev pub NoneEmpty : List (List ℕ) → Type 0
NoneEmpty pieces = AllByRecursion (λ piece. 0 < length piece) pieces

-- whole begins with front, and goes on after it
abbrev pub IsProperBeginning : List ℕ → List ℕ → Type 0
IsProperBeginning front whole = (rest : List ℕ) × (whole ≡ front ++ rest) × (0 < length rest)
