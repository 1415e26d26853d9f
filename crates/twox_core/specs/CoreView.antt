-- What clauses see of a streaming core.
use Rattle.std.specs.Prelude.{ℕ}
use Rattle.twox_core.specs.StreamKey.{StreamKey}
use Rattle.twox_core.specs.declared.xxhash3.streaming.core_state.CoreState.{CoreState}

pub record CoreView (S : Type 0) : Type 0 where
  pub key : StreamKey S
  pub state : CoreState

-- how many bytes were counted, how many stripes the accumulators have taken, and how many bytes are left for them
abbrev pub total_of : {S : Type 0} → CoreView S → ℕ
total_of h = h.state.counts.total_bytes

abbrev pub done_of : {S : Type 0} → CoreView S → ℕ
done_of h = h.state.counts.taken.count

abbrev pub buffered_of : {S : Type 0} → CoreView S → ℕ
buffered_of h = h.state.counts.buffer_usage
