-- States that the calls of a stream of XXH3 leave.
use Rattle.std.specs.Prelude.{◌≡◌, ◌<◌, ◌≤◌, ◌%◌, min, ℕ, List}
use Rattle.twox_core.specs.Long.{stripes_of}
use Rattle.twox_core.specs.Stripes.{current_stripe_of}
use Rattle.twox_core.specs.declared.xxhash3.streaming.core_state.CoreState.{CoreState}

-- sizes that a stream's buffer may have
pub record IsBufferSize (n : ℕ) : Type 0 where
  pub whole : n % 64 ≡ 0
  pub enough : 240 < n
  pub few : n ≤ 65536

-- the state's place lies in the secret s, its buffer has at most n bytes, and if stripes were taken, at least one byte
-- is left in it
pub record IsInRangeOf (n : ℕ) (s : List ℕ) (c : CoreState) : Type 0 where
  pub place : current_stripe_of c.counts.taken.stripes < stripes_of s
  pub within : c.counts.buffer_usage ≤ n
  pub left : min c.counts.total_bytes 1 ≤ c.counts.buffer_usage

-- the same of a state with a buffer of 512 bytes
abbrev pub IsInRange : List ℕ → CoreState → Type 0
IsInRange s c = IsInRangeOf 512 s c
