-- Streams of XXH3 in the page's memory, whose secrets are stored separately.
use Rattle.std.specs.Prelude.{◌≡◌, ◌+◌, ◌-◌, ◌*◌, ◌^◌, ◌==◌, min, if◌then◌else◌, ℕ, Option, Some, None, List}
use Rattle.twox_core.specs.Stripes.{no_stripe}
use Rattle.twox_core.specs.Represents.{Follows}
use Rattle.twox_core.specs.declared.xxhash3.streaming.core_state.CoreState.{CoreState}
use Rattle.twox_core.specs.InRange.{IsInRange}
use Rattle.twox_web.specs.declared.stream_3.Stream.{Stream}

-- the seed, or none if the stream was started with only a secret
abbrev pub seed_of : Stream → Option ℕ
seed_of t = if t.seeds == 0 then None else Some t.seed

-- the stream t over the secret s has this seed, and has hashed m
pub record Represents (t : Stream) (s : List ℕ) (seed : Option ℕ) (m : List ℕ) : Type 0 where
  pub same_seed : seed_of t ≡ seed
  pub taken : Follows s t.core m

-- the length agrees with the stripes taken and the bytes buffered; with no stripe taken, the accumulators are the
-- initial ones
pub record IsCounted (c : CoreState) : Type 0 where
  pub all : c.counts.total_bytes ≡ min (64 * c.counts.taken.count + c.counts.buffer_usage) (2 ^ 64 - 1)
  pub start : c.counts.taken.count ≡ 0 → c.counts.taken.stripes ≡ no_stripe

-- the parts agree with each other and with the secret s
pub record Fits (s : List ℕ) (c : CoreState) : Type 0 where
  pub in_range : IsInRange s c
  pub counted : IsCounted c
