-- The streams of XXH3 that the program uses. The library defines the relation between a stream and its bytes. It is
-- used here without unfolding it.
use Rattle.std.specs.Prelude.{ℕ, Some, List}
use Rattle.twox_hash.specs.Secret.{default_secret, derived_secret}
use Rattle.twox_hash.specs.CoreView.{CoreView}
use Rattle.twox_hash.specs.Represents.{Represents}

-- The stream has this seed and the secret derived from it, and has hashed m.
abbrev pub FollowsDerived : CoreView (List ℕ) → ℕ → List ℕ → Type 0
FollowsDerived h seed m = Represents (λ s. s) h (Some seed) (derived_secret seed) m

-- The stream has the seed 0 and the default secret, and has hashed m.
abbrev pub FollowsDefault : CoreView (List ℕ) → List ℕ → Type 0
FollowsDefault h m = Represents (λ s. s) h (Some 0) default_secret m

-- The stream may have any seed.
abbrev pub AnySeed : CoreView (List ℕ) → ℕ → Type 0
AnySeed h seed = Unit {0}
