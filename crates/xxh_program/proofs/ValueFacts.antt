-- Proves that a value of an algorithm fits in the number of digits of the algorithm.
use Rattle.std.proofs.Common.{ℕ, ◌+◌, ◌*◌, ◌/◌, ◌%◌, ◌^◌, ◌<◌, List, length, arith, mod-lt, pow_pos}
use Rattle.std.proofs.Math.Nat.{div-le_self}
use Rattle.std.proofs.lemmas.Nat.{xor_lt}
use Rattle.twox_core.specs.Long.{high_above_240, low_above_240, merge_accumulators}
use Rattle.twox_core.specs.Middle.{merge_high, merge_low, value64_129_to_240, value64_17_to_128}
use Rattle.twox_core.specs.Secret.{derived_secret}
use Rattle.twox_core.specs.Short.{high_0, high_1_to_3, high_4_to_8, low_0, low_1_to_3, low_4_to_8, strong, value64_0, value64_4_to_8, value64_9_to_16}
use Rattle.twox_core.specs.Steps.{avalanche, avalanche_xxh64}
use Rattle.twox_core.specs.Value.{Bytes0, Bytes1To3, Bytes4To8, Bytes9To16, Bytes17To128, Bytes129To240, BytesAbove240, Range, effective_secret, high_in, low_in, range_of, value64_in, xxh3_128, xxh3_64}
use Rattle.twox_plain.specs.Xxh32.{xxh32}
use Rattle.twox_plain.specs.Xxh64.{xxh64}
use Rattle.twox_words.specs.Word.{xor_shift}
use Rattle.xxh_io.specs.Kind.{digits_of}
use Rattle.xxh_io.specs.declared.kind.Kind.{Kind}
use Rattle.xxh_io.specs.declared.kind.Kind.TheVariants.{X32, X64, X3_64, X3_128}
use Rattle.xxh_program.specs.Kind.{value_of}

-- ---- last steps

-- Lemma: a value of `bits` bits, XORed with itself shifted, has at most `bits` bits.
shifted : (bits n x : ℕ) → xor_shift (x % 2 ^ bits) n < 2 ^ bits
shifted bits n x =
    let low : x % 2 ^ bits < 2 ^ bits = mod-lt x (pow_pos bits) in
    let less = div-le_self (x % 2 ^ bits) (2 ^ n) in
    xor_lt bits (x % 2 ^ bits) (x % 2 ^ bits / 2 ^ n) low (omega (arith, low, less))

avalanche-lt : (x : ℕ) → avalanche x < 2 ^ 64
unfolding avalanche
avalanche-lt x = shifted 64 32 _

avalanche_xxh64-lt : (x : ℕ) → avalanche_xxh64 x < 2 ^ 64
unfolding avalanche_xxh64
avalanche_xxh64-lt x = shifted 64 32 _

xxh32-lt : (seed : ℕ) (m : List ℕ) → xxh32 seed m < 2 ^ 32
unfolding xxh32
xxh32-lt seed m = shifted 32 16 _

xxh64-lt : (seed : ℕ) (m : List ℕ) → xxh64 seed m < 2 ^ 64
unfolding xxh64
xxh64-lt seed m = shifted 64 32 _

-- ---- XXH3, in each range of lengths

value64-lt : (range : Range) (seed : ℕ) (s m : List ℕ) → value64_in range seed s m < 2 ^ 64
unfolding value64_in value64_0 low_1_to_3 value64_4_to_8 strong value64_9_to_16 value64_17_to_128 value64_129_to_240 low_above_240 merge_accumulators
value64-lt Bytes0 seed s m = avalanche_xxh64-lt _
value64-lt Bytes1To3 seed s m = avalanche_xxh64-lt _
value64-lt Bytes4To8 seed s m = shifted 64 28 _
value64-lt Bytes9To16 seed s m = avalanche-lt _
value64-lt Bytes17To128 seed s m = avalanche-lt _
value64-lt Bytes129To240 seed s m = avalanche-lt _
value64-lt BytesAbove240 seed s m = avalanche-lt _

low-lt : (range : Range) (seed : ℕ) (s m : List ℕ) → low_in range seed s m < 2 ^ 64
unfolding low_in low_0 low_1_to_3 low_4_to_8 merge_low low_above_240 merge_accumulators
low-lt Bytes0 seed s m = avalanche_xxh64-lt _
low-lt Bytes1To3 seed s m = avalanche_xxh64-lt _
low-lt Bytes4To8 seed s m = shifted 64 28 _
low-lt Bytes9To16 seed s m = avalanche-lt _
low-lt Bytes17To128 seed s m = avalanche-lt _
low-lt Bytes129To240 seed s m = avalanche-lt _
low-lt BytesAbove240 seed s m = avalanche-lt _

high-lt : (range : Range) (seed : ℕ) (s m : List ℕ) → high_in range seed s m < 2 ^ 64
unfolding high_in high_0 high_1_to_3 high_4_to_8 merge_high high_above_240 merge_accumulators
high-lt Bytes0 seed s m = avalanche_xxh64-lt _
high-lt Bytes1To3 seed s m = avalanche_xxh64-lt _
high-lt Bytes4To8 seed s m = avalanche-lt _
high-lt Bytes9To16 seed s m = avalanche-lt _
high-lt Bytes17To128 seed s m = mod-lt _ (pow_pos 64)
high-lt Bytes129To240 seed s m = mod-lt _ (pow_pos 64)
high-lt BytesAbove240 seed s m = avalanche-lt _

-- Lemma: two halves of 64 bits make a value of at most 128 bits.
halves-lt : (high low : ℕ) → high < 2 ^ 64 → low < 2 ^ 64 → high * 2 ^ 64 + low < 2 ^ 128
halves-lt high low h l = omega (arith, h, l)

pub value-lt : (kind : Kind) (m : List ℕ) → value_of kind 0 m < 16 ^ digits_of kind
unfolding xxh3_64 xxh3_128
value-lt X32 m = xxh32-lt 0 m
value-lt X64 m = xxh64-lt 0 m
value-lt X3_64 m = value64-lt (range_of (length m)) 0 (effective_secret (derived_secret 0) m) m
value-lt X3_128 m =
    let s = effective_secret (derived_secret 0) m in
    halves-lt (high_in (range_of (length m)) 0 s m) (low_in (range_of (length m)) 0 s m)
    (high-lt (range_of (length m)) 0 s m) (low-lt (range_of (length m)) 0 s m)
