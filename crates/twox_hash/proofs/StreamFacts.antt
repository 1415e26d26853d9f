-- Lemmas on streams: the value of a stream is the value of the list that it represents.
use Rattle.std.proofs.Common.{◌≡◌, ℕ, Option, Some, None, if◌then◌else◌, ◌<◌, ◌≤◌, nat_lt, Bool, true, false, List, length, refl, sym, ◌∙◌, arith}
use Rattle.std.proofs.lemmas.Bool.Decides.{nat_tests}
use Rattle.twox_words.specs.Word.{counted}
use Rattle.twox_core.specs.Secret.{default_secret}
use Rattle.twox_core.specs.Value.{xxh3_64, xxh3_128, effective_secret, short_secret, stream_secret, stream_seed}
use Rattle.twox_core.specs.Ending.{stream_accumulators, stream_block, last_stripe, finalize_64, finalize_128}
use Rattle.twox_core.proofs.EndingFacts.{stream_low, stream_both}
use Rattle.twox_core.proofs.ValueLaws.{long_64, long_128}

short_in_64 : (b : Bool) (r seed : ℕ) (own s m : List ℕ) → nat_lt (length m) 241 ≡ b
    → (length m ≤ 240 → r ≡ xxh3_64 seed own m)
    → (240 < length m → r ≡ finalize_64 (stream_accumulators s m) (stream_block m) (last_stripe m) s (counted (length m)))
    → r ≡ xxh3_64 seed (if b then own else s) m
short_in_64 true r seed own s m e short long = short (grind (arith, nat_tests, e))
short_in_64 false r seed own s m e short long =
    let more : 240 < length m = grind (arith, nat_tests, e) in
    long more ∙ stream_low s m (omega arith) ∙ sym (long_64 seed s m more)

either_64 : (b : Bool) (r seed : ℕ) (s m : List ℕ) → nat_lt (length m) 241 ≡ b
    → (length m ≤ 240 → r ≡ xxh3_64 seed s m)
    → (240 < length m → r ≡ finalize_64 (stream_accumulators s m) (stream_block m) (last_stripe m) s (counted (length m)))
    → r ≡ xxh3_64 seed s m
either_64 true r seed s m e short long = short_in_64 true r seed s s m e short long
either_64 false r seed s m e short long = short_in_64 false r seed s s m e short long

pub value_64_stands : (r : ℕ) (seed : Option ℕ) (s m : List ℕ)
    → (length m ≤ 240 → r ≡ xxh3_64 (stream_seed seed) (short_secret seed s) m)
    → (240 < length m → r ≡ finalize_64 (stream_accumulators s m) (stream_block m) (last_stripe m) s (counted (length m)))
    → r ≡ xxh3_64 (stream_seed seed) (stream_secret seed s m) m
unfolding effective_secret
value_64_stands r (Some seed) s m short long = short_in_64 (nat_lt (length m) 241) r seed default_secret s m refl short long
value_64_stands r None s m short long = either_64 (nat_lt (length m) 241) r 0 s m refl short long

short_in_128 : (b : Bool) (r seed : ℕ) (own s m : List ℕ) → nat_lt (length m) 241 ≡ b
    → (length m ≤ 240 → r ≡ xxh3_128 seed own m)
    → (240 < length m → r ≡ finalize_128 (stream_accumulators s m) (stream_block m) (last_stripe m) s (counted (length m)))
    → r ≡ xxh3_128 seed (if b then own else s) m
short_in_128 true r seed own s m e short long = short (grind (arith, nat_tests, e))
short_in_128 false r seed own s m e short long =
    let more : 240 < length m = grind (arith, nat_tests, e) in
    long more ∙ stream_both s m (omega arith) ∙ sym (long_128 seed s m more)

either_128 : (b : Bool) (r seed : ℕ) (s m : List ℕ) → nat_lt (length m) 241 ≡ b
    → (length m ≤ 240 → r ≡ xxh3_128 seed s m)
    → (240 < length m → r ≡ finalize_128 (stream_accumulators s m) (stream_block m) (last_stripe m) s (counted (length m)))
    → r ≡ xxh3_128 seed s m
either_128 true r seed s m e short long = short_in_128 true r seed s s m e short long
either_128 false r seed s m e short long = short_in_128 false r seed s s m e short long

pub value_128_stands : (r : ℕ) (seed : Option ℕ) (s m : List ℕ)
    → (length m ≤ 240 → r ≡ xxh3_128 (stream_seed seed) (short_secret seed s) m)
    → (240 < length m → r ≡ finalize_128 (stream_accumulators s m) (stream_block m) (last_stripe m) s (counted (length m)))
    → r ≡ xxh3_128 (stream_seed seed) (stream_secret seed s m) m
unfolding effective_secret
value_128_stands r (Some seed) s m short long = short_in_128 (nat_lt (length m) 241) r seed default_secret s m refl short long
value_128_stands r None s m short long = either_128 (nat_lt (length m) 241) r 0 s m refl short long
