-- Definitions of the main theorem.
use Rattle.std.specs.Prelude.{◌≡◌, List, ◌++◌, map, ℕ}
use Rattle.std.specs.List.{concat}
use Rattle.std.specs.Borrow.{Bor}

-- the chunks, joined
abbrev pub joined : List (Bor (List ℕ)) → List ℕ
joined pieces = concat (map (λ piece. piece.now) pieces)

-- the two results are the values of the first chunks joined, and of these and the rest joined
abbrev pub AreValuesOf : {V : Type 0} → (List ℕ → V) → List (Bor (List ℕ)) → List (Bor (List ℕ)) → V × V → Type 0
AreValuesOf value first rest digests =
    (digests.0 ≡ value (joined first)) × (digests.1 ≡ value (joined first ++ joined rest))
