use Rattle.std.proofs.Common.{arith}
use Rattle.twox_core.proofs.StateFacts.{short_kept, short_stays, state_size-short}
use Rattle.twox_core.proofs.xxhash3.streaming.stream_state.StreamState.hold_array.Goals as goal

pub returns-else-used-clause-held : goal.returns-else-used-clause-held
returns-else-used-clause-held g c = λ _ s.
    short_kept c.args.self.now _ s c.args.bytes.now c.in-None.is c.in-None.is c.requires.few (omega arith) (omega arith) c.append_array.ensures

pub returns-else-used-clause-in_range : goal.returns-else-used-clause-in_range
returns-else-used-clause-in_range g c = λ s range.
    short_stays c.args.self.now _ s c.args.bytes.now c.in-None.is c.requires.few (omega arith) (omega arith) c.append_array.ensures range

pub returns-else-used-clause-size : goal.returns-else-used-clause-size
returns-else-used-clause-size g c = λ _. state_size-short c.args.self.now c.in-None.is c.requires.few (omega arith)
