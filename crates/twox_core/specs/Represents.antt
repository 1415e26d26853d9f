-- The lists of bytes that a stream represents.
use Rattle.std.specs.Prelude.{◌≡◌, ◌+◌, ◌-◌, ◌*◌, ◌^◌, ◌<◌, min, ℕ, Option, List, ◌++◌, take, drop, length}
use Rattle.twox_words.specs.Word.{counted}
use Rattle.twox_core.specs.Stripes.{HasTaken}
use Rattle.twox_core.specs.CoreView.{CoreView}
use Rattle.twox_core.specs.Parts.{stripe_at}
use Rattle.twox_core.specs.declared.xxhash3.streaming.taken_stripes.TakenStripes.{TakenStripes}
use Rattle.twox_core.specs.declared.xxhash3.streaming.core_state.CoreState.{CoreState}

-- t has taken the first k stripes of m
pub record TookStripes (s m : List ℕ) (k : ℕ) (t : TakenStripes) : Type 0 where
  pub stripes : HasTaken s m k t.stripes
  pub count : t.count ≡ min k (2 ^ 64 - 1)

-- and the buffer begins with the u bytes of m after them
pub record Holds (s m : List ℕ) (k : ℕ) (t : TakenStripes) (buffer : List ℕ) (u : ℕ) : Type 0 where
  pub taken : TookStripes s m k t
  pub all : 64 * k + u ≡ length m
  pub bytes : take u buffer ≡ drop (64 * k) m

-- stripes are taken only of a list that is longer than 240 bytes, and at least one byte is then left; if those left
-- are fewer than a stripe, the buffer ends with the last stripe taken
pub record LeavesLast (m : List ℕ) (k : ℕ) (buffer : List ℕ) (u : ℕ) : Type 0 where
  pub left : 0 < k → 0 < u
  pub long : 0 < k → 240 < length m
  pub last : 0 < k → u < 64 → drop (length buffer - 64) buffer ≡ stripe_at m (64 * k - 64)

-- the state c under the secret s has taken m
unfoldable pub Follows : List ℕ → CoreState → List ℕ → Type 0
Follows s c m =
    (k : ℕ) × (c.counts.total_bytes ≡ counted (length m)) × LeavesLast m k c.buffer c.counts.buffer_usage × Holds s m k c.counts.taken c.buffer c.counts.buffer_usage

-- the core h has this seed, or none if it was made with only a secret; its secret has these bytes (by `bytes`), and it
-- has hashed m
unfoldable pub Represents : {S : Type 0} → (S → List ℕ) → CoreView S → Option ℕ → List ℕ → List ℕ → Type 0
Represents bytes h seed s m = (h.key.seed ≡ seed) × (bytes h.key.secret ≡ s) × Follows s h.state m

-- whatever list the core a represents, the core b represents that list and the chunk d after it
abbrev pub TakesPiece : {S : Type 0} → (S → List ℕ) → CoreView S → CoreView S → List ℕ → Type 0
TakesPiece bytes a b d = (seed : Option ℕ) (s m : List ℕ) → Represents bytes a seed s m → Represents bytes b seed s (m ++ d)

-- the core b has the seed, the secret's bytes and the state of a, so that it represents the same lists
pub record IsCopy {S : Type 0} (bytes : S → List ℕ) (a b : CoreView S) : Type 0 where
  pub seed : b.key.seed ≡ a.key.seed
  pub secret : bytes b.key.secret ≡ bytes a.key.secret
  pub state : b.state ≡ a.state
  pub stands : (seed : Option ℕ) (s m : List ℕ) → Represents bytes a seed s m → Represents bytes b seed s m
