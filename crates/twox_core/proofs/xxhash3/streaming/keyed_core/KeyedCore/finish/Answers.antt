use Rattle.twox_core.proofs.Prelude.{◌∙◌, ◌≡◌, ap, arith, counted, length, subst}
use Rattle.twox_core.specs.Ending.{stream_accumulators, stream_block, last_stripe}
use Rattle.twox_core.specs.Represents.{Represents}
use Rattle.twox_core.specs.Finish.{core_finish}
use Rattle.twox_core.proofs.StreamFacts.{stands_finished_short, stands_finished_long}
use Rattle.twox_core.proofs.xxhash3.streaming.keyed_core.KeyedCore.finish.Goals as goal

pub returns-clause-exact : goal.returns-clause-exact
unfolding core_finish
returns-clause-exact g c =
    let small = g.F.Finalize.small_of c.args.finalize in
    let large = g.F.Finalize.large_of c.args.finalize in
    c.finish.ensures.exact ∙ ap (λ h. core_finish small large g.K.Key.bytes h) c.self.view_is

pub returns-clause-short : goal.returns-clause-short
returns-clause-short g c = λ seed s m held short.
    returns-clause-exact g c ∙ stands_finished_short _ _ g.K.Key.bytes c.args.self.now seed s m held short

pub returns-clause-long : goal.returns-clause-long
returns-clause-long g c = λ seed s m held long.
    let small = g.F.Finalize.small_of c.args.finalize in
    let large = g.F.Finalize.large_of c.args.finalize in
    let range = c.self.invariant.0 in
    let size = c.finish.ensures.size in
    let ended = subst (λ h. Represents g.K.Key.bytes h seed s m → core_finish small large g.K.Key.bytes h ≡ large (stream_accumulators s m) (stream_block m) (last_stripe m) s (counted (length m))) c.self.view_is
    (λ held. stands_finished_long small large g.K.Key.bytes _ seed s m (omega (arith, range.place)) (omega (arith, size)) (omega (arith, size)) (omega (arith, size, range.within)) held long) in
    returns-clause-exact g c ∙ ended held
