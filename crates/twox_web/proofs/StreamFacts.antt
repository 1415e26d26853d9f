-- Lemmas on a stream in the page's memory and on the lists that it represents.
use Rattle.std.proofs.Common.{◌≡◌, ℕ, List, refl, sym, ◌∙◌, arith}
use Rattle.twox_core.specs.Long.{initial_accumulators}
use Rattle.twox_core.specs.Stripes.{no_stripe}
use Rattle.twox_core.specs.Represents.{Follows, Holds}
use Rattle.twox_core.specs.declared.xxhash3.streaming.core_state.CoreState.{CoreState}
use Rattle.twox_core.proofs.TakenFacts.{took_none}
use Rattle.twox_web.specs.Stream.{IsCounted}

-- Lemma: accumulators that have taken no stripe are the initial ones.
none_taken_is_start : (s m : List ℕ) (k : ℕ) (b : List ℕ) (u : ℕ) (c : CoreState) → Holds s m k c.counts.taken b u → k ≡ 0 → c.counts.taken.stripes ≡ no_stripe
none_taken_is_start s m k b u c held none =
    let initial = took_none s m in
    let sums : c.counts.taken.stripes.accumulator ≡ initial_accumulators = rw none at held.taken.stripes.accumulators ∙ sym initial.stripes.accumulators in
    let place : c.counts.taken.stripes.current_stripe ≡ 0 = rw none at held.taken.stripes.place ∙ sym initial.stripes.place in
    rw (sums, place) refl

-- Lemma: the counts of a state that follows a list agree with each other.
pub follows_counted : (s m : List ℕ) (c : CoreState) → Follows s c m → IsCounted c
unfolding Follows
follows_counted s m c held =
    let holds = held.3 in
    record {
      all = omega (arith, held.1, holds.all, holds.taken.count);
      start = λ none. none_taken_is_start s m held.0 c.buffer c.counts.buffer_usage c holds (omega (arith, none, holds.taken.count));
    }
