use Rattle.twox_core.specs.LazyKey.{secret_of}
use Rattle.twox_core.proofs.xxhash3.streaming.lazy_key.LazyKeyKey.write.Goals as goal

pub write_derived-requires-clause-range : goal.write_derived-requires-clause-range
unfolding secret_of
write_derived-requires-clause-range g c = rw c.in-Derived.is at c.requires.range

pub write-requires-clause-range : goal.write-requires-clause-range
unfolding secret_of
write-requires-clause-range g c = rw c.in-Given.is at c.requires.range

pub returns-in-Derived-clause-exact : goal.returns-in-Derived-clause-exact
unfolding secret_of
returns-in-Derived-clause-exact g c = rw c.in-Derived.is c.write_derived.ensures.exact

pub returns-in-Derived-clause-in_range : goal.returns-in-Derived-clause-in_range
unfolding secret_of
returns-in-Derived-clause-in_range g c = rw c.in-Derived.is c.write_derived.ensures.in_range

pub returns-in-Given-clause-exact : goal.returns-in-Given-clause-exact
unfolding secret_of
returns-in-Given-clause-exact g c = rw c.in-Given.is c.write.ensures.exact

pub returns-in-Given-clause-in_range : goal.returns-in-Given-clause-in_range
unfolding secret_of
returns-in-Given-clause-in_range g c = rw c.in-Given.is c.write.ensures.in_range
