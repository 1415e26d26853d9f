-- The effect of feeding a hasher.
use Rattle.std.specs.Prelude.{ℕ, List, ◌++◌}

-- `new` keeps the seed of `old`. It follows each list that `old` follows, with these bytes appended.
abbrev pub IsFed : {H : Type 0} → (H → ℕ → List ℕ → Type 0) → (H → ℕ → Type 0) → H → List ℕ → H
    → Type 0
IsFed follows has_seed old bytes new =
    ((seed : ℕ) → has_seed old seed → has_seed new seed)
    × ((seed : ℕ) (m : List ℕ) → follows old seed m → follows new seed (m ++ bytes))
