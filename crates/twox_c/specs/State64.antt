-- A state of XXH64 that C holds.
use Rattle.std.specs.Prelude.{◌≡◌, ◌<◌, ℕ, List}
use Rattle.twox_plain.specs.Record64.{Represents}
use Rattle.twox_plain.specs.StateInMemory64.{record_of, usage_of}
use Rattle.twox_plain.specs.declared.xxhash64.SavedState.{SavedState}
use Rattle.twox_c.specs.declared.xxh64.Xxh64State.{Xxh64State}

-- the record of its hasher
abbrev pub record_of_state : Xxh64State → SavedState
record_of_state c = record_of c.hasher

-- it has the mark of a reset, and less than a stripe is buffered: calls continue from it, and refuse any other. One
-- word contains both: it is the mark plus less than a stripe
pub record IsUsable (c : Xxh64State) : Type 0 where
  pub in_range : usage_of c.hasher < 32

-- it was reset with the seed and has taken m since
pub record WasGiven (c : Xxh64State) (seed : ℕ) (m : List ℕ) : Type 0 where
  pub usable : IsUsable c
  pub same_seed : c.hasher.seed ≡ seed
  pub message : Represents (record_of_state c) m
