-- Inputs that the result of a one-shot distinguishes, as facts about the definition.
use Rattle.std.specs.Prelude.{◌≡◌, ◌≢◌, ◌≤◌, ◌<◌, ◌^◌, ◌⊎◌, ℕ, List, length}
use Rattle.twox_words.specs.Word.{low64}
use Rattle.twox_core.specs.OtherBytes.{IsOtherShort64, IsOtherShort128}
use Rattle.twox_core.specs.Value.{xxh3_64, xxh3_128}

-- `result` is the value of 64 bits of no other short bytes than m under this seed and secret, and of m under no other
-- seed up to 8 bytes
pub record TellsOthers64 (seed : ℕ) (s m : List ℕ) (result : ℕ) : Type 0 where
  pub changed_bytes : (n : List ℕ) → IsOtherShort64 m n → xxh3_64 seed s n ≢ result
  pub changed_seed : (other : ℕ) → other < 2 ^ 64 → other ≢ seed → length m ≤ 8 → xxh3_64 other s m ≢ result

-- the same for the value of 128 bits, up to 16 bytes
pub record TellsOthers128 (seed : ℕ) (s m : List ℕ) (result : ℕ) : Type 0 where
  pub changed_bytes : (n : List ℕ) → IsOtherShort128 m n → xxh3_128 seed s n ≢ result
  pub changed_seed : (other : ℕ) → other < 2 ^ 64 → other ≢ seed → length m ≤ 16 → xxh3_128 other s m ≢ result

-- for 1 to 3 bytes and above 240, the low half of `result` is the value of 64 bits
abbrev pub HasLowHalf64 : ℕ → List ℕ → List ℕ → ℕ → Type 0
HasLowHalf64 seed s m result =
    ((1 ≤ length m) × (length m ≤ 3)) ⊎ (240 < length m) → low64 result ≡ xxh3_64 seed s m
