use Rattle.std.proofs.Common.{◌∙◌, ap, refl, sym, arith, Some, [], take}
use Rattle.std.proofs.lemmas.List.{length-take-le}
use Rattle.twox_core.proofs.Prelude.{secret_bytes}
use Rattle.twox_core.specs.AfterWrite.{state_after_write}
use Rattle.twox_core.proofs.StateFacts.{short_any, state_of_long, state_of_short, state_size-long, state_size-short}
use Rattle.twox_core.proofs.xxhash3.streaming.stream_state.StreamState.write.Goals as goal

pub take-requires : goal.take-requires
take-requires c = rw (state_of_long c.args.self.now c.in-Some.state c.in-Some.is) at c.requires.range

pub returns-in-Some-clause-exact : goal.returns-in-Some-clause-exact
returns-in-Some-clause-exact c =
    state_of_long _ c.take.new.self refl
    ∙ c.take.ensures.exact
    ∙ ap (λ x. state_after_write (secret_bytes c.args.secret) x c.args.input.now) (sym (state_of_long c.args.self.now c.in-Some.state c.in-Some.is))

pub returns-in-Some-clause-in_range : goal.returns-in-Some-clause-in_range
returns-in-Some-clause-in_range c =
    rw (state_of_long (record c.args.self.now { long = Some c.take.new.self }) c.take.new.self refl) c.take.ensures.in_range

pub returns-in-None-clause-exact : goal.returns-in-None-clause-exact
returns-in-None-clause-exact c =
    let m = take c.args.self.now.used c.args.self.now.short in
    let few = length-take-le c.args.self.now.used c.args.self.now.short (omega arith) in
    let begun = rw c.new-state.ensures at (c.hold.ensures.exact []) ∙ short_any [] m (omega (arith, few)) in
    state_of_long _ c.take-in-None.new.self refl
    ∙ c.take-in-None.ensures.exact
    ∙ ap (λ x. state_after_write (secret_bytes c.args.secret) x c.args.input.now) (begun ∙ sym (state_of_short c.args.self.now c.in-None.is))

pub returns-in-None-clause-in_range : goal.returns-in-None-clause-in_range
returns-in-None-clause-in_range c =
    rw (state_of_long (record c.args.self.now { long = Some c.take-in-None.new.self }) c.take-in-None.new.self refl) c.take-in-None.ensures.in_range

pub returns-in-Some-clause-size : goal.returns-in-Some-clause-size
returns-in-Some-clause-size c = state_size-long c.args.self.now c.in-Some.state c.in-Some.is (omega arith)

pub returns-in-None-clause-size : goal.returns-in-None-clause-size
returns-in-None-clause-size c = state_size-short c.args.self.now c.in-None.is c.requires.few (omega arith)
