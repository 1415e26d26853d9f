-- The mixing steps of XXH3: the xxHash specification, "XXH3 algorithm overview", final mixing step and
-- mixing operation.
use Rattle.std.specs.Prelude.{ℕ, zero, suc, ◌+◌, ◌*◌, List, bit_xor}
use Rattle.std.specs.Int.{w64}
use Rattle.twox_words.specs.Word.{word_at, wrap_add, wrap_sub, wrap_mul, xor_shift, low64, high64}
use Rattle.twox_core.specs.Primes.{prime64_2, prime64_3, prime_mx1}

-- words of 64 bits
abbrev pub word64 : List ℕ → ℕ → ℕ
word64 m i = word_at w64 m i

abbrev pub add64 : ℕ → ℕ → ℕ
add64 x y = wrap_add w64 x y

abbrev pub sub64 : ℕ → ℕ → ℕ
sub64 x y = wrap_sub w64 x y

abbrev pub mul64 : ℕ → ℕ → ℕ
mul64 x y = wrap_mul w64 x y

unfoldable pub avalanche : ℕ → ℕ
avalanche x = xor_shift (mul64 (xor_shift x 37) prime_mx1) 32

-- the last step of XXH64: "XXH64 algorithm description", step 6
unfoldable pub avalanche_xxh64 : ℕ → ℕ
avalanche_xxh64 x = xor_shift (mul64 (xor_shift (mul64 (xor_shift x 33) prime64_2) 29) prime64_3) 32

-- the low half of the full product xor its high half
unfoldable pub fold : ℕ → ℕ → ℕ
fold a b = bit_xor (low64 (a * b)) (high64 (a * b))

-- the 16 bytes of d at i mixed with the 16 bytes of the secret s at j
unfoldable pub mix : List ℕ → ℕ → List ℕ → ℕ → ℕ → ℕ
mix d i s j seed =
    fold (bit_xor (word64 d i) (add64 (word64 s j) seed)) (bit_xor (word64 d (i + 8)) (sub64 (word64 s (j + 8)) seed))

-- f 0 + f 1 + .. + f (n - 1)
unfoldable pub sum_below : (ℕ → ℕ) → ℕ → ℕ
sum_below f zero = 0
sum_below f (suc n) = sum_below f n + f n
