-- Lemmas on inputs above 240 bytes: finalization gives the value under every seed.
use Rattle.twox_core.proofs.Prelude.{◌<◌, ◌^◌, ◌∙◌, ◌≡◌, List, arith, length, stripes_of, sym, ℕ}
use Rattle.twox_core.specs.Ending.{block_accumulators, last_block, last_stripe, finalize_64, finalize_128}
use Rattle.twox_core.specs.Value.{xxh3_64, xxh3_128}
use Rattle.twox_core.proofs.EndingFacts.{block_low, block_both}
use Rattle.twox_core.proofs.ValueLaws.{long_64, long_128}

pub block_value_64 : (s m : List ℕ) → 0 < stripes_of s → 240 < length m → length m < 2 ^ 64
    → (seed : ℕ) → finalize_64 (block_accumulators s m) (last_block s m) (last_stripe m) s (length m) ≡ xxh3_64 seed s m
block_value_64 s m some long low seed = block_low s m some (omega arith) low ∙ sym (long_64 seed s m long)

pub block_value_128 : (s m : List ℕ) → 0 < stripes_of s → 240 < length m → length m < 2 ^ 64
    → (seed : ℕ) → finalize_128 (block_accumulators s m) (last_block s m) (last_stripe m) s (length m) ≡ xxh3_128 seed s m
block_value_128 s m some long low seed = block_both s m some (omega arith) low ∙ sym (long_128 seed s m long)
