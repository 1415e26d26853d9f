use Rattle.std.proofs.Common.{ap}
use Rattle.std.specs.Box.{boxed_slice_items}
use Rattle.twox_core.specs.LazyKey.{secret_of}
use Rattle.twox_core.proofs.xxhash3.streaming.lazy_key.LazyKey.into_secret.Goals as goal

pub returns-in-Derived : goal.returns-in-Derived
unfolding secret_of
returns-in-Derived g c = rw c.in-Derived.is (rw c.derived_secret.ensures at c.from_slice.ensures.ok)

pub returns-in-Given : goal.returns-in-Given
unfolding secret_of
returns-in-Given g c = rw c.in-Given.is (ap boxed_slice_items c.into_secret.ensures)
