use Rattle.twox_core.specs.LazyKey.{seed_of, secret_of}
use Rattle.twox_core.proofs.xxhash3.streaming.keyed_core.KeyedCore+LazyKey+A.given.Goals as goal

pub over-requires : goal.over-requires
unfolding secret_of
over-requires g c = c.show_length.ensures

pub returns : goal.returns
unfolding seed_of secret_of
returns g c = c.over.ensures
