-- Lengths 0 to 16: the xxHash specification, "XXH3 algorithm description (for small inputs)". `s` is the
-- secret, `m` the bytes and `seed` a word of 64 bits.
use Rattle.std.specs.Prelude.{ℕ, ◌+◌, ◌-◌, ◌*◌, ◌/◌, ◌%◌, ◌^◌, List, length, slice_index, bit_xor}
use Rattle.std.specs.Int.{w32, w64, rotate_left, swap_bytes}
use Rattle.twox_words.specs.Word.{word_at, xor_shift, low32, high32, low64, high64}
use Rattle.twox_core.specs.Primes.{prime32_2, prime64_1, prime64_2, prime_mx2}
use Rattle.twox_core.specs.Steps.{word64, add64, sub64, mul64, avalanche, avalanche_xxh64, fold}

-- the xor of two neighbouring words of the secret
abbrev pub pair64 : List ℕ → ℕ → ℕ
pair64 s i = bit_xor (word64 s i) (word64 s (i + 8))

abbrev pub pair32 : List ℕ → ℕ → ℕ
pair32 s i = bit_xor (word_at w32 s i) (word_at w32 s (i + 4))

-- ---- no bytes

unfoldable pub value64_0 : ℕ → List ℕ → ℕ
value64_0 seed s = avalanche_xxh64 (bit_xor (bit_xor seed (word64 s 56)) (word64 s 64))

unfoldable pub low_0 : ℕ → List ℕ → ℕ
low_0 seed s = avalanche_xxh64 (bit_xor (bit_xor seed (word64 s 64)) (word64 s 72))

unfoldable pub high_0 : ℕ → List ℕ → ℕ
high_0 seed s = avalanche_xxh64 (bit_xor (bit_xor seed (word64 s 80)) (word64 s 88))

-- ---- 1 to 3 bytes

-- the last byte, the number of bytes, the first byte and the middle one
unfoldable pub combined_bytes : List ℕ → ℕ
combined_bytes m =
    slice_index m (length m - 1) + length m * 2 ^ 8 + slice_index m 0 * 2 ^ 16 + slice_index m (length m / 2) * 2 ^ 24

-- the value of 64 bits, which is also the low half of the value of 128 bits, and the high half, from the combined bytes
-- c
unfoldable pub low_1_to_3 : ℕ → List ℕ → ℕ → ℕ
low_1_to_3 seed s c = avalanche_xxh64 (bit_xor (add64 (pair32 s 0) seed) c)

unfoldable pub high_1_to_3 : ℕ → List ℕ → ℕ → ℕ
high_1_to_3 seed s c = avalanche_xxh64 (bit_xor (sub64 (pair32 s 8) seed) (rotate_left w32 (swap_bytes w32 c) 13))

-- ---- 4 to 8 bytes

-- the seed, with the reversed bytes of its low half xored into its high half
unfoldable pub mixed_seed : ℕ → ℕ
mixed_seed seed = bit_xor seed (swap_bytes w32 (low32 seed) * 2 ^ 32)

abbrev pub first32 : List ℕ → ℕ
first32 m = word_at w32 m 0

abbrev pub last32 : List ℕ → ℕ
last32 m = word_at w32 m (length m - 4)

abbrev pub xor_rotated : ℕ → ℕ
xor_rotated x = bit_xor (bit_xor x (rotate_left w64 x 49)) (rotate_left w64 x 24)

-- the stronger mixing of a word under the length n
unfoldable pub strong : ℕ → ℕ → ℕ
strong n x =
    let y = mul64 (xor_rotated x) prime_mx2 in
    let z = mul64 (bit_xor y (y / 2 ^ 35 + n)) prime_mx2 in xor_shift z 28

unfoldable pub value64_4_to_8 : ℕ → List ℕ → List ℕ → ℕ
value64_4_to_8 seed s m =
    strong (length m) (bit_xor (sub64 (pair64 s 8) (mixed_seed seed)) (last32 m + first32 m * 2 ^ 32))

-- the full product, from which both halves of the value are computed
unfoldable pub product_4_to_8 : ℕ → List ℕ → List ℕ → ℕ
product_4_to_8 seed s m =
    bit_xor (add64 (pair64 s 16) (mixed_seed seed)) (first32 m + last32 m * 2 ^ 32) * add64 prime64_1 (length m * 4)

abbrev pub sum_4_to_8 : ℕ → ℕ
sum_4_to_8 p = add64 (high64 p) (low64 p * 2)

abbrev pub xor_4_to_8 : ℕ → ℕ
xor_4_to_8 p = bit_xor (low64 p) (sum_4_to_8 p / 2 ^ 3)

unfoldable pub low_4_to_8 : ℕ → ℕ
low_4_to_8 p = xor_shift (mul64 (xor_shift (xor_4_to_8 p) 35) prime_mx2) 28

unfoldable pub high_4_to_8 : ℕ → ℕ
high_4_to_8 p = avalanche (sum_4_to_8 p)

-- ---- 9 to 16 bytes

abbrev pub first64 : List ℕ → ℕ
first64 m = word64 m 0

abbrev pub last64 : List ℕ → ℕ
last64 m = word64 m (length m - 8)

unfoldable pub value64_9_to_16 : ℕ → List ℕ → List ℕ → ℕ
value64_9_to_16 seed s m =
    let a = bit_xor (add64 (pair64 s 24) seed) (first64 m) in
    let b = bit_xor (sub64 (pair64 s 40) seed) (last64 m) in
    avalanche (add64 (add64 (add64 (length m) (swap_bytes w64 a)) b) (fold a b))

-- the two words that go in
unfoldable pub first_9_to_16 : ℕ → List ℕ → List ℕ → ℕ
first_9_to_16 seed s m = bit_xor (bit_xor (sub64 (pair64 s 32) seed) (first64 m)) (last64 m)

unfoldable pub second_9_to_16 : ℕ → List ℕ → List ℕ → ℕ
second_9_to_16 seed s m = bit_xor (add64 (pair64 s 48) seed) (last64 m)

-- the halves, from the product p of the first word, the second word v and the length n
unfoldable pub high_word_9_to_16 : ℕ → ℕ → ℕ
high_word_9_to_16 p v = add64 (add64 (high64 p) (high32 v * 2 ^ 32)) (low32 v * prime32_2)

unfoldable pub low_word_9_to_16 : ℕ → ℕ → ℕ
low_word_9_to_16 p n = add64 (low64 p) ((n - 1) * 2 ^ 54)

unfoldable pub both_words_9_to_16 : ℕ → ℕ → ℕ → ℕ
both_words_9_to_16 p v n = high_word_9_to_16 p v * 2 ^ 64 + bit_xor (low_word_9_to_16 p n) (swap_bytes w64 (high_word_9_to_16 p v))

-- the halves times the second prime, from which each half of the value is mixed
unfoldable pub product_9_to_16 : ℕ → List ℕ → List ℕ → ℕ
product_9_to_16 seed s m =
    both_words_9_to_16 (first_9_to_16 seed s m * prime64_1) (second_9_to_16 seed s m) (length m) * prime64_2 % 2 ^ 128
