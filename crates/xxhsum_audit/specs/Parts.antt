-- Bytes that are split at each byte of one value.
use Rattle.std.specs.Prelude.{ℕ, ◌≡◌, ◌⊎◌, ◌<◌, List, [], ◌∷◌, ◌++◌, length, flat_map}
use Rattle.xxhsum_line.specs.Parts.{Lacks}
use Rattle.xxhsum_audit.specs.Item.{IsAmong}

-- The parts, each followed by this byte.
abbrev pub ended : ℕ → List (List ℕ) → List ℕ
ended end parts = flat_map (λ part. part ++ end ∷ []) parts

-- The bytes are these parts, each followed by the byte `end`, which no part contains. The last part may be without it,
-- if it is not empty.
abbrev pub ArePartsOf : ℕ → List ℕ → List (List ℕ) → Type 0
ArePartsOf end bytes parts =
    ((part : List ℕ) → IsAmong parts part → Lacks end part)
    × ((bytes ≡ ended end parts)
    ⊎ ((before : List (List ℕ)) × (last : List ℕ) × (parts ≡ before ++ last ∷ []) × (0 < length last)
    × (bytes ≡ ended end before ++ last)))
