use Rattle.std.proofs.Common.{◌++◌, ap, subst, arith}
use Rattle.twox_core.specs.AfterWrite.{core_after_write}
use Rattle.twox_core.specs.Represents.{Represents}
use Rattle.twox_core.proofs.StreamFacts.{stands_written}
use Rattle.twox_core.proofs.xxhash3.streaming.keyed_core.KeyedCore.write.Goals as goal

pub returns-else-not-hold-clause-exact : goal.returns-else-not-hold-clause-exact
unfolding core_after_write
returns-else-not-hold-clause-exact g c = rw (c.hold.ensures.held c.if-not-hold.false (g.K.Key.bytes (g.K.Key.key c.self.inside.key).secret)) (ap (λ h. core_after_write g.K.Key.bytes h c.args.input.now) c.self.view_is)

pub returns-else-not-hold-clause-message : goal.returns-else-not-hold-clause-message
returns-else-not-hold-clause-message g c = λ seed s m held.
    let d = c.args.input.now in
    let range = c.self.invariant.0 in
    let size = c.hold.ensures.size in
    let follows = subst (λ h. Represents g.K.Key.bytes h seed s m → Represents g.K.Key.bytes (core_after_write g.K.Key.bytes h d) seed s (m ++ d)) c.self.view_is
    (stands_written g.K.Key.bytes _ seed s m d (omega (arith, range.place)) (omega (arith, size)) (omega (arith, size)) (omega (arith, size, range.within))) in
    rw (returns-else-not-hold-clause-exact g c) (follows held)
