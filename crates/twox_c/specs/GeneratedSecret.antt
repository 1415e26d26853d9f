-- The secret that XXH3_generateSecret derives from a custom seed: the header xxhash.h of release 0.8.1.
use Rattle.std.specs.Prelude.{ℕ, zero, suc, ◌+◌, ◌-◌, ◌*◌, ◌/◌, ◌%◌, if◌then◌else◌, List, [], ◌∷◌, ◌++◌, length, take, drop, nat_eq, slice_index, bit_xor}
use Rattle.std.specs.Int.{w64, w128, to_le_bytes, to_be_bytes}
use Rattle.twox_words.specs.Word.{low64, high64}
use Rattle.twox_core.specs.Steps.{word64}
use Rattle.twox_core.specs.Secret.{default_secret}
use Rattle.twox_core.specs.Value.{xxh3_128}

-- the source of the secret: the custom seed or, if that is empty, the default secret
abbrev pub source_of : List ℕ → List ℕ
source_of c = if nat_eq (length c) 0 then default_secret else c

-- n bytes: c repeated
unfoldable pub repeated : List ℕ → ℕ → List ℕ
repeated c zero = []
repeated c (suc k) = repeated c k ++ slice_index c (k % length c) ∷ []

-- m with its eight bytes from byte i on, a little-endian word, xored with x
unfoldable pub word_xored : List ℕ → ℕ → ℕ → List ℕ
word_xored m i x = take i m ++ to_le_bytes w64 (bit_xor (word64 m i) x) ++ drop (i + 8) m

-- m with its two words from byte i on xored with the low and the high half of h
abbrev pub pair_xored : List ℕ → ℕ → ℕ → List ℕ
pair_xored m i h = word_xored (word_xored m i (low64 h)) (i + 8) (high64 h)

-- m with its first n groups of 16 bytes xored, group k with the hash of the bytes b with the seed k
unfoldable pub groups_xored : List ℕ → List ℕ → ℕ → List ℕ
groups_xored b m zero = m
groups_xored b m (suc k) = pair_xored (groups_xored b m k) (16 * k) (xxh3_128 k default_secret b)

-- The secret of n bytes: its source repeated; then each whole group of 16 bytes xored with the hash, under the group's
-- number as the seed, of the source's hash in its canonical form; and then the last 16 bytes xored with the source's
-- hash.
unfoldable pub secret_from : List ℕ → ℕ → List ℕ
secret_from c n =
    let h = xxh3_128 0 default_secret c in
    pair_xored (groups_xored (to_be_bytes w128 h) (repeated c n) (n / 16)) (n - 16) h

abbrev pub generated_secret : List ℕ → ℕ → List ℕ
generated_secret c n = secret_from (source_of c) n
