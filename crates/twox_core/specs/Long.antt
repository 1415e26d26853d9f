-- Above 240 bytes: the xxHash specification, "XXH3 algorithm description (for large inputs)", steps 1 to 4. Each of the
-- eight accumulators is followed separately, by the number of stripes of 64 bytes, and no seed is used.
use Rattle.std.specs.Prelude.{ℕ, zero, suc, ◌+◌, ◌-◌, ◌*◌, ◌/◌, ◌%◌, ◌^◌, ◌==◌, List, [], ◌∷◌, length, slice_index, bit_xor, if◌then◌else◌}
use Rattle.twox_words.specs.Word.{xor_shift, low32, high32, counted}
use Rattle.twox_core.specs.Primes.{prime32_1, prime32_2, prime32_3, prime64_1, prime64_2, prime64_3, prime64_4, prime64_5}
use Rattle.twox_core.specs.Steps.{word64, mul64, avalanche, fold, sum_below}

-- step 1
abbrev pub initial_accumulators : List ℕ
initial_accumulators =
    prime32_3 ∷ prime64_1 ∷ prime64_2 ∷ prime64_3 ∷ prime64_4 ∷ prime32_2 ∷ prime64_5 ∷ prime32_1 ∷ []

-- the product of the halves of v
abbrev pub halves_product : ℕ → ℕ
halves_product v = low32 v * high32 v

-- step 2: accumulator i of value a after the stripe that begins at byte p of m, under the secret at byte j of s. It
-- gains the word of its neighbour.
unfoldable pub accumulate_one : ℕ → ℕ → List ℕ → ℕ → List ℕ → ℕ → ℕ
accumulate_one i a m p s j =
    (a + word64 m (p + 8 * bit_xor i 1) + halves_product (bit_xor (word64 m (p + 8 * i)) (word64 s (j + 8 * i)))) % 2 ^ 64

-- accumulator i of value a scrambled under the 64 bytes of s at j
unfoldable pub scramble_one : ℕ → ℕ → List ℕ → ℕ → ℕ
scramble_one i a s j = mul64 (bit_xor (xor_shift a 47) (word64 s (j + 8 * i))) prime32_1

-- the number of stripes from one scramble to the next
abbrev pub stripes_of : List ℕ → ℕ
stripes_of s = (length s - 64) / 8

-- accumulator i after k stripes
unfoldable pub accumulator_after : List ℕ → List ℕ → ℕ → ℕ → ℕ
accumulator_after s m i zero = slice_index initial_accumulators i
accumulator_after s m i (suc k) =
    let b = accumulate_one i (accumulator_after s m i k) m (64 * k) s (8 * (k % stripes_of s)) in
    if (k + 1) % stripes_of s == 0 then scramble_one i b s (length s - 64) else b

-- step 3: accumulator i after all stripes and the last 64 bytes
unfoldable pub last_accumulator : List ℕ → List ℕ → ℕ → ℕ
last_accumulator s m i = accumulate_one i (accumulator_after s m i ((length m - 1) / 64)) m (length m - 64) s (length s - 71)

-- step 4: the fold of accumulators 2i and 2i + 1 of f under the 16 bytes of s at j + 16i
unfoldable pub pair_fold : (ℕ → ℕ) → List ℕ → ℕ → ℕ → ℕ
pair_fold f s j i = fold (bit_xor (f (2 * i)) (word64 s (j + 16 * i))) (bit_xor (f (2 * i + 1)) (word64 s (j + 16 * i + 8)))

-- the accumulators f merged under the 64 bytes of s at j
unfoldable pub merge_accumulators : ℕ → List ℕ → ℕ → (ℕ → ℕ) → ℕ
merge_accumulators init s j f = avalanche ((init + sum_below (pair_fold f s j) 4) % 2 ^ 64)

-- the value of 64 bits, which is also the low half of the value of 128 bits, and the high half. The length is the
-- counted one.
unfoldable pub low_above_240 : List ℕ → List ℕ → ℕ
low_above_240 s m = merge_accumulators (mul64 (counted (length m)) prime64_1) s 11 (last_accumulator s m)

unfoldable pub high_above_240 : List ℕ → List ℕ → ℕ
high_above_240 s m = merge_accumulators (2 ^ 64 - 1 - mul64 (counted (length m)) prime64_2) s (length s - 75) (last_accumulator s m)
