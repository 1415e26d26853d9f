-- The values of XXH3, of 64 bits and of 128, of any list of bytes: the xxHash specification, "XXH3 algorithm overview".
-- `seed` and `s` are the seed and the secret in effect.
use Rattle.std.specs.Prelude.{ℕ, Option, Some, None, ◌+◌, ◌-◌, ◌*◌, ◌/◌, ◌^◌, nat_lt, if◌then◌else◌, List, length}
use Rattle.twox_words.specs.Word.{low64, high64}
use Rattle.twox_core.specs.Steps.{avalanche}
use Rattle.twox_core.specs.Secret.{default_secret}
use Rattle.twox_core.specs.Short.{value64_0, low_0, high_0, combined_bytes, low_1_to_3, high_1_to_3, value64_4_to_8, product_4_to_8, low_4_to_8, high_4_to_8, value64_9_to_16, product_9_to_16}
use Rattle.twox_core.specs.Middle.{value64_17_to_128, value64_129_to_240, first_17_to_128, second_17_to_128, first_129_to_240, second_129_to_240, merge_low, merge_high}
use Rattle.twox_core.specs.Long.{low_above_240, high_above_240}

-- the ranges of lengths: 0, 1 to 3, 4 to 8, 9 to 16, 17 to 128, 129 to 240 and above
pub data Range : Type 0 where
  Bytes0 : Range
  Bytes1To3 : Range
  Bytes4To8 : Range
  Bytes9To16 : Range
  Bytes17To128 : Range
  Bytes129To240 : Range
  BytesAbove240 : Range

unfoldable pub range_of : ℕ → Range
range_of n =
    if nat_lt n 1 then Bytes0
    else if nat_lt n 4 then Bytes1To3
    else if nat_lt n 9 then Bytes4To8
    else if nat_lt n 17 then Bytes9To16
    else if nat_lt n 129 then Bytes17To128
    else if nat_lt n 241 then Bytes129To240
    else BytesAbove240

-- the steps of the two accumulators at 17 to 128 bytes
abbrev pub steps_of : List ℕ → ℕ
steps_of m = (length m - 1) / 32 + 1

unfoldable pub value64_in : Range → ℕ → List ℕ → List ℕ → ℕ
value64_in Bytes0 seed s m = value64_0 seed s
value64_in Bytes1To3 seed s m = low_1_to_3 seed s (combined_bytes m)
value64_in Bytes4To8 seed s m = value64_4_to_8 seed s m
value64_in Bytes9To16 seed s m = value64_9_to_16 seed s m
value64_in Bytes17To128 seed s m = value64_17_to_128 seed s m
value64_in Bytes129To240 seed s m = value64_129_to_240 seed s m
value64_in BytesAbove240 seed s m = low_above_240 s m

unfoldable pub low_in : Range → ℕ → List ℕ → List ℕ → ℕ
low_in Bytes0 seed s m = low_0 seed s
low_in Bytes1To3 seed s m = low_1_to_3 seed s (combined_bytes m)
low_in Bytes4To8 seed s m = low_4_to_8 (product_4_to_8 seed s m)
low_in Bytes9To16 seed s m = avalanche (low64 (product_9_to_16 seed s m))
low_in Bytes17To128 seed s m =
    merge_low (first_17_to_128 seed s m (steps_of m) (steps_of m)) (second_17_to_128 seed s m (steps_of m) (steps_of m))
low_in Bytes129To240 seed s m = merge_low (first_129_to_240 seed s m) (second_129_to_240 seed s m)
low_in BytesAbove240 seed s m = low_above_240 s m

unfoldable pub high_in : Range → ℕ → List ℕ → List ℕ → ℕ
high_in Bytes0 seed s m = high_0 seed s
high_in Bytes1To3 seed s m = high_1_to_3 seed s (combined_bytes m)
high_in Bytes4To8 seed s m = high_4_to_8 (product_4_to_8 seed s m)
high_in Bytes9To16 seed s m = avalanche (high64 (product_9_to_16 seed s m))
high_in Bytes17To128 seed s m =
    merge_high seed (length m) (first_17_to_128 seed s m (steps_of m) (steps_of m)) (second_17_to_128 seed s m (steps_of m) (steps_of m))
high_in Bytes129To240 seed s m = merge_high seed (length m) (first_129_to_240 seed s m) (second_129_to_240 seed s m)
high_in BytesAbove240 seed s m = high_above_240 s m

-- the value of 64 bits
unfoldable pub xxh3_64 : ℕ → List ℕ → List ℕ → ℕ
xxh3_64 seed s m = value64_in (range_of (length m)) seed s m

-- the value of 128 bits, its high half over its low half
unfoldable pub xxh3_128 : ℕ → List ℕ → List ℕ → ℕ
xxh3_128 seed s m = high_in (range_of (length m)) seed s m * 2 ^ 64 + low_in (range_of (length m)) seed s m

-- The secret in effect if a call has both a seed and a secret, also a derived one: up to 240 bytes the default secret,
-- with the seed, and above that the call's own, with no seed. A call with only a secret uses it at every length, with
-- the seed 0, and a call with neither has the default secret and the seed 0.
unfoldable pub effective_secret : List ℕ → List ℕ → List ℕ
effective_secret own m = if nat_lt (length m) 241 then default_secret else own

-- The seed and the secret in effect in a stream with the secret s. A stream that was made with a seed follows the rule
-- above; one that was made with only a secret has no seed of its own and uses the secret at every length, with the seed
-- 0.
abbrev pub stream_seed : Option ℕ → ℕ
stream_seed (Some seed) = seed
stream_seed None = 0

abbrev pub stream_secret : Option ℕ → List ℕ → List ℕ → List ℕ
stream_secret (Some _) s m = effective_secret s m
stream_secret None s m = s

-- the secret of its short inputs
abbrev pub short_secret : Option ℕ → List ℕ → List ℕ
short_secret (Some _) s = default_secret
short_secret None s = s

-- the values of a stream that has hashed m
abbrev pub stream_64 : Option ℕ → List ℕ → List ℕ → ℕ
stream_64 seed s m = xxh3_64 (stream_seed seed) (stream_secret seed s m) m

abbrev pub stream_128 : Option ℕ → List ℕ → List ℕ → ℕ
stream_128 seed s m = xxh3_128 (stream_seed seed) (stream_secret seed s m) m
