-- Lists that differ only within one unit of a hash, and hashes that distinguish them.
use Rattle.std.specs.Prelude.{◌≡◌, ◌≢◌, ◌<◌, ◌≤◌, ◌⊎◌, ◌+◌, ◌*◌, ◌/◌, ◌%◌, ℕ, List, length, slice_index}
use Rattle.twox_words.specs.Word.{IsBytes}

-- n is another list of the same length as m, and agrees with it outside the `size` bytes from byte `from` on
pub record DiffersWithin (from size : ℕ) (m n : List ℕ) : Type 0 where
  pub lengths : length n ≡ length m
  pub other : n ≢ m
  pub outside : (k : ℕ) → (k < from) ⊎ (from + size ≤ k) → slice_index n k ≡ slice_index m k

-- the units of XXH32 in `len` bytes: each whole four-byte word counted from byte 0, and each byte after them
abbrev pub IsUnit32 : ℕ → ℕ → ℕ → Type 0
IsUnit32 len from size =
    ((size ≡ 4) × (from % 4 ≡ 0) × (from + 4 ≤ len))
    ⊎ ((size ≡ 1) × (len / 4 * 4 ≤ from) × (from < len))

-- the units of XXH64 among the bytes of `len` that fill no stripe: each eight-byte word, the four-byte word if there is
-- one, and each byte after them
abbrev pub IsTailUnit64 : ℕ → ℕ → ℕ → Type 0
IsTailUnit64 len from size =
    ((size ≡ 8) × (len / 32 * 32 ≤ from) × (from % 8 ≡ 0) × (from + 8 ≤ len))
    ⊎ ((size ≡ 4) × (from ≡ len / 8 * 8) × (from + 4 ≤ len))
    ⊎ ((size ≡ 1) × (len / 4 * 4 ≤ from) × (from < len))

-- no list of bytes that differs from m only within one unit has m's `value`
abbrev pub NoticesChangedUnit : (ℕ → ℕ → ℕ → Type 0) → (List ℕ → ℕ) → List ℕ → ℕ → Type 0
NoticesChangedUnit IsUnit hash m value =
    (n : List ℕ) (from size : ℕ) → IsBytes n → IsUnit (length m) from size → DiffersWithin from size m n → hash n ≢ value

-- if m is shorter than a stripe, `value` of m under the seed is not its value under any other seed
abbrev pub NoticesChangedSeed : ℕ → ℕ → (ℕ → List ℕ → ℕ) → ℕ → List ℕ → ℕ → Type 0
NoticesChangedSeed seeds stripe hash seed m value =
    (other : ℕ) → other < seeds → other ≢ seed → length m < stripe → hash other m ≢ value
