-- The values of a stream's state, with its seed, if it has one, and over its secret, also for a state that no bytes
-- lead to.
use Rattle.std.specs.Prelude.{ℕ, List, Option}
use Rattle.twox_core.specs.Value.{xxh3_64, xxh3_128}
use Rattle.twox_core.specs.Ending.{finalize_64, finalize_128}
use Rattle.twox_core.specs.declared.xxhash3.streaming.core_state.CoreState.{CoreState}
use Rattle.twox_core.specs.Finish.{state_finish}

abbrev pub state_value_64 : Option ℕ → List ℕ → CoreState → ℕ
state_value_64 seed secret state = state_finish (λ s own m. xxh3_64 own s m) finalize_64 seed secret state

abbrev pub state_value_128 : Option ℕ → List ℕ → CoreState → ℕ
state_value_128 seed secret state = state_finish (λ s own m. xxh3_128 own s m) finalize_128 seed secret state
