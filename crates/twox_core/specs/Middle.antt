-- Lengths 17 to 240: the xxHash specification, "XXH3 algorithm description (for medium inputs)". Chunk c is the 16
-- bytes of `m` from byte 16 * c on, and back chunk c the 16 bytes before the last 16 * c bytes.
use Rattle.std.specs.Prelude.{ℕ, zero, suc, ◌+◌, ◌-◌, ◌*◌, ◌/◌, ◌%◌, ◌^◌, List, length, bit_xor}
use Rattle.twox_core.specs.Primes.{prime64_1, prime64_2, prime64_4}
use Rattle.twox_core.specs.Steps.{word64, add64, sub64, mul64, avalanche, mix, sum_below}

-- ---- 64 bits: sums over the numbers of the chunks

-- chunk c and back chunk c
unfoldable pub both_ends : ℕ → List ℕ → List ℕ → ℕ → ℕ
both_ends seed s m c = mix m (16 * c) s (32 * c) seed + mix m (length m - 16 * (c + 1)) s (32 * c + 16) seed

-- 17 to 128 bytes
unfoldable pub value64_17_to_128 : ℕ → List ℕ → List ℕ → ℕ
value64_17_to_128 seed s m =
    avalanche ((length m * prime64_1 + sum_below (both_ends seed s m) ((length m - 1) / 32 + 1)) % 2 ^ 64)

-- chunk c under the secret at 16 * c, and chunk 8 + c under the secret at 16 * c + 3
unfoldable pub early : ℕ → List ℕ → List ℕ → ℕ → ℕ
early seed s m c = mix m (16 * c) s (16 * c) seed

unfoldable pub later : ℕ → List ℕ → List ℕ → ℕ → ℕ
later seed s m c = mix m (128 + 16 * c) s (16 * c + 3) seed

-- 129 to 240 bytes
unfoldable pub value64_129_to_240 : ℕ → List ℕ → List ℕ → ℕ
value64_129_to_240 seed s m =
    avalanche ((avalanche ((length m * prime64_1 + sum_below (early seed s m) 8) % 2 ^ 64)
    + sum_below (later seed s m) (length m / 16 - 8)
    + mix m (length m - 16) s 119 seed) % 2 ^ 64)

-- ---- 128 bits: two accumulators, each followed separately

-- the accumulator a takes the 16 bytes at i under the secret at j, and then the words of the 16 bytes at k
unfoldable pub accumulator_step : ℕ → List ℕ → List ℕ → ℕ → ℕ → ℕ → ℕ → ℕ
accumulator_step seed s m a i j k = bit_xor (add64 a (mix m i s j seed)) (add64 (word64 m k) (word64 m (k + 8)))

-- 17 to 128 bytes: a accumulator after t of the n steps, of which the first takes chunk n - 1 and back chunk n - 1
unfoldable pub first_17_to_128 : ℕ → List ℕ → List ℕ → ℕ → ℕ → ℕ
first_17_to_128 seed s m n zero = mul64 (length m) prime64_1
first_17_to_128 seed s m n (suc t) =
    let c = n - 1 - t in accumulator_step seed s m (first_17_to_128 seed s m n t) (16 * c) (32 * c) (length m - 16 * (c + 1))

unfoldable pub second_17_to_128 : ℕ → List ℕ → List ℕ → ℕ → ℕ → ℕ
second_17_to_128 seed s m n zero = 0
second_17_to_128 seed s m n (suc t) =
    let c = n - 1 - t in accumulator_step seed s m (second_17_to_128 seed s m n t) (length m - 16 * (c + 1)) (32 * c + 16) (16 * c)

-- the accumulator a after t pairs of chunks from byte i on, under the secret from byte j on
unfoldable pub pairs_first : ℕ → List ℕ → List ℕ → ℕ → ℕ → ℕ → ℕ → ℕ
pairs_first seed s m i j a zero = a
pairs_first seed s m i j a (suc t) =
    accumulator_step seed s m (pairs_first seed s m i j a t) (i + 32 * t) (j + 32 * t) (i + 32 * t + 16)

unfoldable pub pairs_second : ℕ → List ℕ → List ℕ → ℕ → ℕ → ℕ → ℕ → ℕ
pairs_second seed s m i j a zero = a
pairs_second seed s m i j a (suc t) =
    accumulator_step seed s m (pairs_second seed s m i j a t) (i + 32 * t + 16) (j + 32 * t + 16) (i + 32 * t)

-- 129 to 240 bytes: four pairs, the rest of the whole pairs, and the last 32 bytes with the halves swapped
-- and the seed negated
unfoldable pub first_129_to_240 : ℕ → List ℕ → List ℕ → ℕ
first_129_to_240 seed s m =
    accumulator_step (sub64 0 seed) s m
    (pairs_first seed s m 128 3 (avalanche (pairs_first seed s m 0 0 (mul64 (length m) prime64_1) 4)) ((length m - 128) / 32))
    (length m - 16) 103 (length m - 32)

unfoldable pub second_129_to_240 : ℕ → List ℕ → List ℕ → ℕ
second_129_to_240 seed s m =
    accumulator_step (sub64 0 seed) s m
    (pairs_second seed s m 128 3 (avalanche (pairs_second seed s m 0 0 0 4)) ((length m - 128) / 32))
    (length m - 32) 119 (length m - 16)

-- the halves of the value from the accumulators a and b
unfoldable pub merge_low : ℕ → ℕ → ℕ
merge_low a b = avalanche (add64 a b)

unfoldable pub merge_high : ℕ → ℕ → ℕ → ℕ → ℕ
merge_high seed n a b =
    sub64 0 (avalanche (add64 (add64 (mul64 a prime64_1) (mul64 b prime64_4)) (mul64 (sub64 n seed) prime64_2)))
