-- A state of XXH32 that C holds.
use Rattle.std.specs.Prelude.{◌≡◌, ◌<◌, ℕ, List}
use Rattle.twox_plain.specs.Record32.{Represents}
use Rattle.twox_plain.specs.StateInMemory32.{record_of, usage_of}
use Rattle.twox_plain.specs.declared.xxhash32.SavedState.{SavedState}
use Rattle.twox_c.specs.declared.xxh32.Xxh32State.{Xxh32State}

-- the record of its hasher
abbrev pub record_of_state : Xxh32State → SavedState
record_of_state c = record_of c.hasher

-- it has the mark of a reset, and less than a stripe is buffered: calls continue from it, and refuse any other. One
-- word contains both: it is the mark plus less than a stripe
pub record IsUsable (c : Xxh32State) : Type 0 where
  pub in_range : usage_of c.hasher < 16

-- it was reset with the seed and has taken m since
pub record WasGiven (c : Xxh32State) (seed : ℕ) (m : List ℕ) : Type 0 where
  pub usable : IsUsable c
  pub same_seed : c.hasher.seed ≡ seed
  pub message : Represents (record_of_state c) m
