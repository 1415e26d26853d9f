use Rattle.std.proofs.Common.{◌∙◌, refl}
use Rattle.twox_core.proofs.StateFacts.{state_of_short, short_none}
use Rattle.twox_core.proofs.xxhash3.streaming.stream_state.StreamState.new.Goals as goal

pub returns-clause-state : goal.returns-clause-state
returns-clause-state c = state_of_short _ refl ∙ short_none
