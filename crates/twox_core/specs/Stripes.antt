-- The effect of a stripe on the accumulators and on their place in the secret.
use Rattle.std.specs.Prelude.{◌≡◌, ◌<◌, ℕ, zero, suc, ◌+◌, ◌-◌, ◌*◌, ◌/◌, ◌%◌, ◌==◌, List, length, if◌then◌else◌}
use Rattle.twox_core.specs.Long.{stripes_of, initial_accumulators, accumulator_after}
use Rattle.twox_core.specs.Kernel.{eight, accumulate, round_scramble}
use Rattle.twox_core.specs.Parts.{stripe_at}
use Rattle.twox_core.specs.declared.xxhash3.stripes.StripeAccumulator.{StripeAccumulator}

abbrev pub accumulators_of : StripeAccumulator → List ℕ
accumulators_of a = a.accumulator

abbrev pub current_stripe_of : StripeAccumulator → ℕ
current_stripe_of a = a.current_stripe

-- the accumulators a at the secret's start, and those before the first stripe
abbrev pub at_start : List ℕ → StripeAccumulator
at_start a = record { accumulator = a; current_stripe = 0 }

abbrev pub no_stripe : StripeAccumulator
no_stripe = at_start initial_accumulators

-- the accumulators with the stripe t accumulated, at their place in the secret s
abbrev pub sum_at_place : List ℕ → StripeAccumulator → List ℕ → List ℕ
sum_at_place s a t = accumulate a.accumulator t (stripe_at s (8 * a.current_stripe))

-- a after the stripe t: scrambled if it reaches the secret's last place
unfoldable pub after_stripe : List ℕ → StripeAccumulator → List ℕ → StripeAccumulator
after_stripe s a t =
    if a.current_stripe + 1 == stripes_of s
    then record { accumulator = round_scramble (sum_at_place s a t) (stripe_at s (length s - 64)); current_stripe = 0 }
    else record { accumulator = sum_at_place s a t; current_stripe = a.current_stripe + 1 }

-- a after the first n stripes of xs
unfoldable pub after_stripes : List ℕ → StripeAccumulator → List ℕ → ℕ → StripeAccumulator
after_stripes s a xs zero = a
after_stripes s a xs (suc n) = after_stripe s (after_stripes s a xs n) (stripe_at xs (64 * n))

-- b is a after all stripes of xs, at a place that the secret s has
pub record AfterStripes (s : List ℕ) (a : StripeAccumulator) (xs : List ℕ) (b : StripeAccumulator) : Type 0 where
  pub exact : b ≡ after_stripes s a xs (length xs / 64)
  pub place : current_stripe_of b < stripes_of s

-- a has taken the first k stripes of m
pub record HasTaken (s m : List ℕ) (k : ℕ) (a : StripeAccumulator) : Type 0 where
  pub accumulators : a.accumulator ≡ eight (λ i. accumulator_after s m i k)
  pub place : a.current_stripe ≡ k % stripes_of s
