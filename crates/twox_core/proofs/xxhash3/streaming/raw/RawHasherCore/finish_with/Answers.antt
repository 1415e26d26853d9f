use Rattle.twox_core.proofs.Prelude.{◌∙◌, ◌≡◌, ap, arith, counted, length, subst}
use Rattle.twox_core.specs.Ending.{stream_accumulators, stream_block, last_stripe}
use Rattle.twox_core.specs.Represents.{Represents}
use Rattle.twox_core.specs.Finish.{core_finish}
use Rattle.twox_core.proofs.StreamFacts.{stands_finished_short, stands_finished_long}
use Rattle.twox_core.proofs.xxhash3.streaming.raw.RawHasherCore.finish_with.Goals as goal

pub returns-clause-exact : goal.returns-clause-exact
unfolding core_finish
returns-clause-exact g c =
    let small = g.F.Finalize.small_of c.args.finalize in
    let large = g.F.Finalize.large_of c.args.finalize in
    rw (c.secret-secret.ensures, c.seed.ensures) at c.finish.ensures.exact ∙ ap (λ h. core_finish small large g.S.FixedBuffer.bytes h) c.self.view_is

pub returns-clause-short : goal.returns-clause-short
returns-clause-short g c = λ seed s m held short.
    returns-clause-exact g c ∙ stands_finished_short _ _ g.S.FixedBuffer.bytes c.args.self.now seed s m held short

pub returns-clause-long : goal.returns-clause-long
returns-clause-long g c = λ seed s m held long.
    let small = g.F.Finalize.small_of c.args.finalize in
    let large = g.F.Finalize.large_of c.args.finalize in
    let bytes = g.S.FixedBuffer.bytes in
    let enough = rw c.secret-secret.ensures at c.secret-secret.result.long_enough in
    let ended = subst (λ h. Represents bytes h seed s m → core_finish small large bytes h ≡ large (stream_accumulators s m) (stream_block m) (last_stripe m) s (counted (length m))) c.self.view_is
    (λ held. stands_finished_long small large bytes _ seed s m (omega (arith, enough)) (omega arith) (omega arith) (omega arith) held long) in
    returns-clause-exact g c ∙ ended held
