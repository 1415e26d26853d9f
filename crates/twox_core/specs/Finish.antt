-- What the last call of a stream reads of it.
use Rattle.std.specs.Prelude.{ℕ, Option, List, ◌++◌, ◌+◌, ◌-◌, ◌*◌, ◌/◌, nat_le, nat_lt, take, drop, length, if◌then◌else◌}
use Rattle.twox_core.specs.Value.{short_secret, stream_seed}
use Rattle.twox_core.specs.Stripes.{after_stripes}
use Rattle.twox_core.specs.CoreView.{CoreView}
use Rattle.twox_core.specs.declared.xxhash3.streaming.core_state.CoreState.{CoreState}

-- the last 64 bytes, from a buffer with u bytes in use, whose end has the last stripe taken if u is below 64
unfoldable pub last_bytes : List ℕ → ℕ → List ℕ
last_bytes b u = if nat_lt u 64 then drop (length b - 64 + u) b ++ take u b else take 64 (drop (u - 64) b)

abbrev pub buffered_bytes : CoreState → List ℕ
buffered_bytes c = take c.counts.buffer_usage c.buffer

-- how many of the buffered stripes come before the last one
abbrev pub stripes_left : CoreState → ℕ
stripes_left c = (c.counts.buffer_usage - 1) / 64

-- the accumulators after those, and the bytes after those
unfoldable pub end_accumulators : List ℕ → CoreState → List ℕ
end_accumulators s c = (after_stripes s c.counts.taken.stripes (buffered_bytes c) (stripes_left c)).accumulator

unfoldable pub end_block : CoreState → List ℕ
end_block c = drop (64 * stripes_left c) (buffered_bytes c)

-- the value of a state, from the finalizer's functions of short and of long inputs; long inputs use the secret s
unfoldable pub state_finish : {R : Type 0} → (List ℕ → ℕ → List ℕ → R) → (List ℕ → List ℕ → List ℕ → List ℕ → ℕ → R) → Option ℕ → List ℕ → CoreState → R
state_finish small large seed s c =
    if nat_le c.counts.total_bytes 240 then small (short_secret seed s) (stream_seed seed) (take c.counts.total_bytes c.buffer)
    else large (end_accumulators s c) (end_block c) (last_bytes c.buffer c.counts.buffer_usage) s c.counts.total_bytes

-- the value of a core, where `bytes` is the function from its secret to that secret's bytes
unfoldable pub core_finish : {S R : Type 0} → (List ℕ → ℕ → List ℕ → R) → (List ℕ → List ℕ → List ℕ → List ℕ → ℕ → R) → (S → List ℕ) → CoreView S → R
core_finish small large bytes h = state_finish small large h.key.seed (bytes h.key.secret) h.state
