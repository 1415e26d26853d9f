use Rattle.std.proofs.Common.{arith}
use Rattle.twox_core.specs.LazyKey.{seed_of, secret_of}
use Rattle.twox_core.proofs.StateFacts.{derived_secret-length}
use Rattle.twox_core.proofs.xxhash3.streaming.keyed_core.KeyedCore+LazyKey+A.with_seed.Goals as goal

pub over-requires : goal.over-requires
unfolding secret_of
over-requires g c = omega (arith, derived_secret-length c.args.seed)

pub returns : goal.returns
unfolding seed_of secret_of
returns g c = c.over.ensures
