-- A state of XXH3 that C holds, for both widths.
use Rattle.std.specs.Prelude.{◌≡◌, ◌⊎◌, ◌≤◌, ◌==◌, ℕ, Option, Some, None, List, length, if◌then◌else◌}
use Rattle.twox_core.specs.CoreView.{CoreView}
use Rattle.twox_core.specs.AfterWrite.{state_over}
use Rattle.twox_core.specs.InRange.{IsInRangeOf}
use Rattle.twox_core.specs.Represents.{Represents}
use Rattle.twox_core.specs.declared.xxhash3.streaming.core_state.CoreState.{CoreState}
use Rattle.twox_c.specs.declared.xxh3_state.Xxh3State.{Xxh3State}
use Rattle.twox_c.specs.declared.xxh3_state.TheConstants.{MARK_3, MARK_COPY, MARK_ADDRESS, MARK_ADDRESS_AND_SEED}

-- the seed, if it was made with one
abbrev pub seed_of : Xxh3State → Option ℕ
seed_of c = if c.mark == MARK_COPY then None else (if c.mark == MARK_ADDRESS then None else Some c.seed)

-- the counts over the buffer
abbrev pub core_of : Xxh3State → CoreState
core_of c = state_over c.counts c.buffer

-- its stream over the secret s, and over its own secret
abbrev pub stream_with : Xxh3State → List ℕ → CoreView (List ℕ)
stream_with c s = record { key = record { seed = seed_of c; secret = s }; state = core_of c }

abbrev pub stream_of : Xxh3State → CoreView (List ℕ)
stream_of c = stream_with c c.secret

-- it has the mark of a reset after which it has its secret, or of one after which its caller has the secret
abbrev pub IsOwner : Xxh3State → Type 0
IsOwner c = (c.mark ≡ MARK_3) ⊎ (c.mark ≡ MARK_COPY)

abbrev pub IsBorrower : Xxh3State → Type 0
IsBorrower c = (c.mark ≡ MARK_ADDRESS) ⊎ (c.mark ≡ MARK_ADDRESS_AND_SEED)

-- it is a borrower of the n bytes at the address a
pub record Borrows (c : Xxh3State) (a n : ℕ) : Type 0 where
  pub mark : IsBorrower c
  pub address : c.address ≡ a
  pub secret_length : c.secret_length ≡ n

-- it has its secret, and all numbers are in their ranges: calls without a secret continue from it, and refuse any other
pub record IsUsable (c : Xxh3State) : Type 0 where
  pub mark : IsOwner c
  pub in_range : IsInRangeOf 256 c.secret (core_of c)

-- the same of a borrower and the secret s: calls with this secret continue from it, and refuse any other
pub record IsUsableWith (c : Xxh3State) (s : List ℕ) : Type 0 where
  pub mark : IsBorrower c
  pub long_enough : 136 ≤ length s
  pub in_range : IsInRangeOf 256 s (core_of c)

-- it was reset with the secret s, which it has, and this seed (or, without a seed, with only the secret), and has
-- taken m since
pub record WasGiven (c : Xxh3State) (seed : Option ℕ) (s m : List ℕ) : Type 0 where
  pub usable : IsUsable c
  pub message : Represents (λ x. x) (stream_of c) seed s m

-- the same if its caller has the secret
pub record WasGivenWith (c : Xxh3State) (seed : Option ℕ) (s m : List ℕ) : Type 0 where
  pub usable : IsUsableWith c s
  pub message : Represents (λ x. x) (stream_with c s) seed s m
