use Rattle.std.proofs.Common.{Some, ◌∙◌, ap, arith, refl, sym}
use Rattle.twox_core.specs.AfterWrite.{state_after_write}
use Rattle.twox_core.proofs.StateFacts.{short_kept, short_stays, state_of_long, state_size-long, state_size-short}
use Rattle.twox_core.proofs.xxhash3.streaming.stream_state.StreamState.hold.Goals as goal

pub has_room-requires : goal.has_room-requires
has_room-requires c = rw (state_of_long c.args.self.now c.in-Some.state c.in-Some.is) at c.requires.room

pub returns-else-not-has_room-clause-held : goal.returns-else-not-has_room-clause-held
returns-else-not-has_room-clause-held c = λ _ s.
    state_of_long _ c.hold.new.self refl
    ∙ c.hold.ensures.exact s
    ∙ ap (λ x. state_after_write s x c.args.input.now) (sym (state_of_long c.args.self.now c.in-Some.state c.in-Some.is))

pub returns-else-not-has_room-clause-in_range : goal.returns-else-not-has_room-clause-in_range
returns-else-not-has_room-clause-in_range c = λ s range.
    rw (state_of_long (record c.args.self.now { long = Some c.hold.new.self }) c.hold.new.self refl) (c.hold.ensures.in_range s (rw (state_of_long c.args.self.now c.in-Some.state c.in-Some.is) at range))

pub returns-else-input-used-clause-held : goal.returns-else-input-used-clause-held
returns-else-input-used-clause-held c = λ _ s.
    short_kept c.args.self.now _ s c.args.input.now c.in-None.is c.in-None.is c.requires.few (omega arith) (omega arith) c.append.ensures

pub returns-else-input-used-clause-in_range : goal.returns-else-input-used-clause-in_range
returns-else-input-used-clause-in_range c = λ s range.
    short_stays c.args.self.now _ s c.args.input.now c.in-None.is c.requires.few (omega arith) (omega arith) c.append.ensures range

pub returns-then-not-has_room-clause-size : goal.returns-then-not-has_room-clause-size
returns-then-not-has_room-clause-size c = state_size-long c.args.self.now c.in-Some.state c.in-Some.is c.has_room.ensures.size

pub returns-then-input-used-clause-size : goal.returns-then-input-used-clause-size
returns-then-input-used-clause-size c = state_size-short c.args.self.now c.in-None.is c.requires.few (omega arith)

pub returns-else-not-has_room-clause-size : goal.returns-else-not-has_room-clause-size
returns-else-not-has_room-clause-size c = state_size-long c.args.self.now c.in-Some.state c.in-Some.is c.has_room.ensures.size

pub returns-else-input-used-clause-size : goal.returns-else-input-used-clause-size
returns-else-input-used-clause-size c = state_size-short c.args.self.now c.in-None.is c.requires.few (omega arith)
