use Rattle.twox_core.specs.LazyKey.{seed_of, secret_of}
use Rattle.twox_core.proofs.xxhash3.streaming.lazy_key.LazyKeyKey.finish.Goals as goal

pub finish_derived-requires-clause-range : goal.finish_derived-requires-clause-range
unfolding secret_of
finish_derived-requires-clause-range g c = rw c.in-Derived.is at c.requires.range

pub finish_given-requires-clause-range : goal.finish_given-requires-clause-range
unfolding secret_of
finish_given-requires-clause-range g c = rw c.in-Given.is at c.requires.range

pub returns-in-Derived-clause-exact : goal.returns-in-Derived-clause-exact
unfolding secret_of seed_of
returns-in-Derived-clause-exact g c = rw c.in-Derived.is c.finish_derived.ensures.exact

pub returns-in-Given-clause-exact : goal.returns-in-Given-clause-exact
unfolding secret_of seed_of
returns-in-Given-clause-exact g c = rw c.in-Given.is c.finish_given.ensures.exact
