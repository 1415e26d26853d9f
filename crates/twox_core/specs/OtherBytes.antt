-- Short inputs whose values of XXH3 are never equal under one seed and one secret.
use Rattle.std.specs.Prelude.{◌≡◌, ◌≢◌, ◌≤◌, ◌⊎◌, ℕ, List, length}
use Rattle.twox_words.specs.Word.{IsBytes}

-- n is other bytes than m, both 1 to 3 or both of one length from 4 to 8: their values of 64 bits differ
pub record IsOtherShort64 (m n : List ℕ) : Type 0 where
  pub bytes : IsBytes n
  pub other : n ≢ m
  pub range :
      ((1 ≤ length m) × (length m ≤ 3) × (1 ≤ length n) × (length n ≤ 3))
      ⊎ ((length n ≡ length m) × (4 ≤ length m) × (length m ≤ 8))

-- n is other bytes than m of the same length, which is up to 16: their values of 128 bits differ
pub record IsOtherShort128 (m n : List ℕ) : Type 0 where
  pub bytes : IsBytes n
  pub other : n ≢ m
  pub lengths : length n ≡ length m
  pub short : length m ≤ 16
