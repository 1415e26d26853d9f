use Rattle.std.proofs.Common.{sym, subst}
use Rattle.twox_core.specs.Represents.{Represents}
use Rattle.twox_hash.proofs.StreamFacts.{value_128_stands}
use Rattle.twox_hash.proofs.xxhash3_128.KeyedStream+Finalize128+K.finish_128.Goals as goal

pub returns-clause-message : goal.returns-clause-message
returns-clause-message g c = λ seed s m stands.
    let inner = subst (λ h. Represents g.K.Key.bytes h seed s m) (sym c.inner.ensures) stands in
    value_128_stands _ seed s m (λ short. c.finish.ensures.short seed s m inner short) (λ long. c.finish.ensures.long seed s m inner long)
