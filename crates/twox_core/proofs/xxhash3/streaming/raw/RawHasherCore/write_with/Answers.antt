use Rattle.std.proofs.Common.{◌++◌, ap, subst, arith}
use Rattle.twox_core.specs.AfterWrite.{core_after_write}
use Rattle.twox_core.specs.Represents.{Represents}
use Rattle.twox_core.proofs.StreamFacts.{stands_written}
use Rattle.twox_core.proofs.xxhash3.streaming.raw.RawHasherCore.write_with.Goals as goal

pub returns-clause-exact : goal.returns-clause-exact
unfolding core_after_write
returns-clause-exact g c =
    let bytes = g.S.FixedBuffer.bytes in
    let exact = rw c.secret.ensures at c.write.ensures.exact in
    rw exact (ap (λ h. core_after_write bytes h c.args.input.now) c.self.view_is)

pub returns-clause-message : goal.returns-clause-message
returns-clause-message g c = λ seed s m held.
    let bytes = g.S.FixedBuffer.bytes in
    let d = c.args.input.now in
    let enough = rw c.secret.ensures at c.secret.result.long_enough in
    let follows = subst (λ h. Represents bytes h seed s m → Represents bytes (core_after_write bytes h d) seed s (m ++ d)) c.self.view_is
    (stands_written bytes _ seed s m d (omega (arith, enough)) (omega arith) (omega arith) (omega arith)) in
    rw (returns-clause-exact g c) (follows held)
