-- The effect of one write on a stream, unread buffer bytes included.
use Rattle.std.specs.Prelude.{ℕ, List, ◌++◌, ◌+◌, ◌-◌, ◌*◌, ◌/◌, ◌%◌, ◌^◌, min, nat_le, replicate, length, take, drop, if◌then◌else◌}
use Rattle.twox_core.specs.Stripes.{after_stripes, no_stripe}
use Rattle.twox_core.specs.CoreView.{CoreView}
use Rattle.twox_core.specs.declared.xxhash3.streaming.taken_stripes.TakenStripes.{TakenStripes}
use Rattle.twox_core.specs.declared.xxhash3.streaming.stream_counts.StreamCounts.{StreamCounts}
use Rattle.twox_core.specs.declared.xxhash3.streaming.core_state.CoreState.{CoreState}

-- the state of these counts and this buffer, which may have any length
abbrev pub state_over : StreamCounts → List ℕ → CoreState
state_over t b = record { counts = t; buffer = b }

-- nothing taken, and the state of no bytes
abbrev pub none_taken : TakenStripes
none_taken = record { stripes = no_stripe; count = 0 }

abbrev pub no_bytes : StreamCounts
no_bytes = record { taken = none_taken; buffer_usage = 0; total_bytes = 0 }

abbrev pub empty_state : CoreState
empty_state = state_over no_bytes (replicate 512 0)

-- t after the first n stripes of xs, under the secret s
unfoldable pub after_taking : List ℕ → TakenStripes → List ℕ → ℕ → TakenStripes
after_taking s t xs n = record {
  stripes = after_stripes s t.stripes xs n;
  count = min (t.count + n) (2 ^ 64 - 1);
}

-- the bytes d put after the buffered ones
abbrev pub with_buffered : CoreState → List ℕ → CoreState
with_buffered c d = record {
  counts = record c.counts { buffer_usage = c.counts.buffer_usage + length d };
  buffer = take c.counts.buffer_usage c.buffer ++ (d ++ drop (length d) (drop c.counts.buffer_usage c.buffer));
}

-- the buffered stripes are taken
abbrev pub with_empty_buffer : List ℕ → CoreState → CoreState
with_empty_buffer s c = record c {
  counts = record c.counts {
    taken = after_taking s c.counts.taken (take c.counts.buffer_usage c.buffer) (c.counts.buffer_usage / 64);
    buffer_usage = 0;
  };
}

-- how many stripes of n bytes are taken in place: all except a last one, whole or not
abbrev pub stripes_in_place : ℕ → ℕ
stripes_in_place n = (n - 64) / 64

-- stripes of r are taken in place, and its other bytes begin the buffer
unfoldable pub after_rest : List ℕ → CoreState → List ℕ → CoreState
after_rest s c r =
    let n = stripes_in_place (length r) in
    record {
      counts = record c.counts { taken = after_taking s c.counts.taken r n; buffer_usage = length r - 64 * n };
      buffer = drop (64 * n) r ++ drop (length r - 64 * n) c.buffer;
    }

-- the length of d is counted
abbrev pub with_longer_length : CoreState → List ℕ → CoreState
with_longer_length c d = record c { counts = record c.counts { total_bytes = min (c.counts.total_bytes + length d) (2 ^ 64 - 1) } }

-- how many bytes fill the buffered ones up to whole stripes
abbrev pub bytes_to_stripe_end : CoreState → ℕ
bytes_to_stripe_end c = (64 - c.counts.buffer_usage % 64) % 64

-- the chunk d fills a stripe, the buffered stripes are taken, and the rest of d comes after them
unfoldable pub after_long_piece : List ℕ → CoreState → List ℕ → CoreState
after_long_piece s c d =
    let n = bytes_to_stripe_end c in
    after_rest s (with_empty_buffer s (with_buffered c (take n d))) (drop n d)

-- the state after the chunk d, under the secret s
unfoldable pub state_after_write : List ℕ → CoreState → List ℕ → CoreState
state_after_write s c d =
    if nat_le (length d) (length c.buffer - c.counts.buffer_usage) then with_buffered (with_longer_length c d) d
    else after_long_piece s (with_longer_length c d) d

-- the core after the chunk d, where `bytes` is the function from its secret to that secret's bytes
unfoldable pub core_after_write : {S : Type 0} → (S → List ℕ) → CoreView S → List ℕ → CoreView S
core_after_write bytes h d = record h { state = state_after_write (bytes h.key.secret) h.state d }
