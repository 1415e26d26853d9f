-- The end of a long input: its last block of stripes, its last 64 bytes, and the merge of the accumulators.
use Rattle.std.specs.Prelude.{ℕ, zero, suc, ◌+◌, ◌-◌, ◌*◌, ◌/◌, ◌^◌, List, length, drop, slice_index}
use Rattle.twox_core.specs.Primes.{prime64_1, prime64_2}
use Rattle.twox_core.specs.Steps.{mul64}
use Rattle.twox_core.specs.Parts.{stripe_at}
use Rattle.twox_core.specs.Long.{stripes_of, accumulator_after, merge_accumulators}
use Rattle.twox_core.specs.Kernel.{eight, accumulate}

-- ---- the parts of an input m under the secret s

-- the accumulators after k stripes
unfoldable pub accumulators_after : List ℕ → List ℕ → ℕ → List ℕ
accumulators_after s m k = eight (λ i. accumulator_after s m i k)

-- how many stripes the whole blocks before the last one have
abbrev pub stripes_before : List ℕ → List ℕ → ℕ
stripes_before s m = stripes_of s * ((length m - 1) / (64 * stripes_of s))

-- the accumulators after those, and the bytes after those
unfoldable pub block_accumulators : List ℕ → List ℕ → List ℕ
block_accumulators s m = accumulators_after s m (stripes_before s m)

unfoldable pub last_block : List ℕ → List ℕ → List ℕ
last_block s m = drop (64 * stripes_before s m) m

-- if all stripes except the last were taken: the accumulators after those, and the bytes after those
unfoldable pub stream_accumulators : List ℕ → List ℕ → List ℕ
stream_accumulators s m = accumulators_after s m ((length m - 1) / 64)

unfoldable pub stream_block : List ℕ → List ℕ
stream_block m = drop (64 * ((length m - 1) / 64)) m

-- the last 64 bytes
unfoldable pub last_stripe : List ℕ → List ℕ
last_stripe m = drop (length m - 64) m

-- ---- the results of a last block b and of last 64 bytes t

-- the accumulators a after k stripes of b, from the secret's start on and with no scramble
unfoldable pub accumulate_block : List ℕ → List ℕ → List ℕ → ℕ → List ℕ
accumulate_block s a b zero = a
accumulate_block s a b (suc k) = accumulate (accumulate_block s a b k) (stripe_at b (64 * k)) (stripe_at s (8 * k))

-- the accumulators after all stripes of b except its last, and after t
unfoldable pub final_accumulators : List ℕ → List ℕ → List ℕ → List ℕ → List ℕ
final_accumulators a b t s = accumulate (accumulate_block s a b ((length b - 1) / 64)) t (stripe_at s (length s - 71))

-- the value of 64 bits of n bytes, and the high half of the value of 128 bits
unfoldable pub finalize_64 : List ℕ → List ℕ → List ℕ → List ℕ → ℕ → ℕ
finalize_64 a b t s n = merge_accumulators (mul64 n prime64_1) s 11 (slice_index (final_accumulators a b t s))

unfoldable pub finalize_high : List ℕ → List ℕ → List ℕ → List ℕ → ℕ → ℕ
finalize_high a b t s n =
    merge_accumulators (2 ^ 64 - 1 - mul64 n prime64_2) s (length s - 75) (slice_index (final_accumulators a b t s))

unfoldable pub finalize_128 : List ℕ → List ℕ → List ℕ → List ℕ → ℕ → ℕ
finalize_128 a b t s n = finalize_high a b t s n * 2 ^ 64 + finalize_64 a b t s n
