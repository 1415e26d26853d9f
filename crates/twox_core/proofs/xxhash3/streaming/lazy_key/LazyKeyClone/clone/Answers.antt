use Rattle.std.proofs.Common.{refl}
use Rattle.twox_core.specs.LazyKey.{seed_of, secret_of}
use Rattle.twox_core.proofs.xxhash3.streaming.lazy_key.LazyKeyClone.clone.Goals as goal

pub returns-in_ok-clone-in-Derived : goal.returns-in_ok-clone-in-Derived
unfolding seed_of secret_of
returns-in_ok-clone-in-Derived g c = rw c.in-Derived.is (record { cases = (refl, refl) })

pub returns-in_ok-clone-in-Given : goal.returns-in_ok-clone-in-Given
unfolding seed_of secret_of
returns-in_ok-clone-in-Given g c = rw c.in-Given.is (record { cases = c.in_ok-clone-in-Given.ensures.cases })
