use Rattle.std.proofs.Common.{Some, ap, ◌∙◌, arith}
use Rattle.twox_core.specs.Finish.{core_finish}
use Rattle.twox_core.proofs.StreamFacts.{stands_finished_short, stands_finished_long}
use Rattle.twox_c.specs.State3.{stream_with}
use Rattle.twox_c.proofs.xxh3_state.Xxh3State.finish_with.Goals as goal

pub returns-clause-exact : goal.returns-clause-exact
unfolding core_finish
returns-clause-exact g c = λ _. ap (λ x. Some x) (rw (c.in-Ok.ensures.1, c.seed.ensures) at c.finish.ensures.exact)

pub returns-clause-short : goal.returns-clause-short
returns-clause-short g c = λ seed m given short.
    let s = c.args.secret.now in
    returns-clause-exact g c given.usable
    ∙ ap (λ x. Some x) (stands_finished_short _ _ (λ x. x) (stream_with c.args.self.now s) seed s m given.message short)

pub returns-clause-long : goal.returns-clause-long
returns-clause-long g c = λ seed m given long.
    let s = c.args.secret.now in
    let usable = given.usable in
    let size = c.finish.ensures.size in
    returns-clause-exact g c usable
    ∙ ap (λ x. Some x) (stands_finished_long _ _ (λ x. x) (stream_with c.args.self.now s) seed s m (omega (arith, usable.in_range.place)) (omega (arith, size)) (omega (arith, size)) (omega (arith, size, usable.in_range.within)) given.message long)
