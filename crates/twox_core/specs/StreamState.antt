-- The state of a stream that has only its bytes while they are few.
use Rattle.std.specs.Prelude.{ℕ, ◌≤◌, Option, Some, None, List, [], take}
use Rattle.twox_core.specs.AfterWrite.{empty_state, state_after_write}
use Rattle.twox_core.specs.declared.xxhash3.streaming.core_state.CoreState.{CoreState}
use Rattle.twox_core.specs.declared.xxhash3.streaming.stream_state.StreamState.{StreamState}

-- the state after the bytes m, which fit its buffer, so that no secret has an effect
unfoldable pub short_state : List ℕ → CoreState
short_state m = state_after_write [] empty_state m

-- a longer state or, if there is none, the state after the bytes m
unfoldable pub state_in : Option CoreState → List ℕ → CoreState
state_in None m = short_state m
state_in (Some c) m = c

-- the state of a stream
unfoldable pub state_of : StreamState → CoreState
state_of s = state_in s.long (take s.used s.short)

-- its bytes outside of a longer state are few
abbrev pub IsShort : StreamState → Type 0
IsShort s = s.used ≤ 128

-- the bytes of a secret that is a list of bytes
abbrev pub own : List ℕ → List ℕ
own s = s
