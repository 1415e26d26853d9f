use Rattle.std.proofs.Common.{◌∙◌, refl, sym, arith, [], take}
use Rattle.std.proofs.lemmas.List.{length-take-le}
use Rattle.twox_core.proofs.StateFacts.{short_any, state_of_long, state_of_short}
use Rattle.twox_core.proofs.xxhash3.streaming.stream_state.StreamState.begin_long.Goals as goal

pub returns-in-None-clause-state : goal.returns-in-None-clause-state
returns-in-None-clause-state c =
    let m = take c.args.self.now.used c.args.self.now.short in
    let few = length-take-le c.args.self.now.used c.args.self.now.short (omega arith) in
    state_of_long _ c.hold.new.self refl
    ∙ rw c.new-state.ensures at (c.hold.ensures.exact []) ∙ short_any [] m (omega (arith, few))
    ∙ sym (state_of_short c.args.self.now c.in-None.is)
