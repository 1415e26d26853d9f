-- The value of each algorithm. Its digits and its seeds are defined in xxh_io, with the arguments.
use Rattle.std.specs.Prelude.{ℕ, List}
pub use Rattle.xxh_io.specs.Kind.{digits_of, seed_limit}
use Rattle.twox_hash.specs.Xxh32.{xxh32}
use Rattle.twox_hash.specs.Xxh64.{xxh64}
use Rattle.twox_hash.specs.Secret.{derived_secret}
use Rattle.twox_hash.specs.Value.{effective_secret, xxh3_64, xxh3_128}
use Rattle.xxh_io.specs.declared.kind.Kind.{Kind}
use Rattle.xxh_io.specs.declared.kind.Kind.TheVariants.{X32, X64, X3_64, X3_128}

-- XXH3 under a seed and the secret derived from it.
abbrev pub seeded_64 : ℕ → List ℕ → ℕ
seeded_64 seed m = xxh3_64 seed (effective_secret (derived_secret seed) m) m

abbrev pub seeded_128 : ℕ → List ℕ → ℕ
seeded_128 seed m = xxh3_128 seed (effective_secret (derived_secret seed) m) m

-- The value of the bytes m by this algorithm, under a seed.
abbrev pub value_of : Kind → ℕ → List ℕ → ℕ
value_of X32 seed m = xxh32 seed m
value_of X64 seed m = xxh64 seed m
value_of X3_64 seed m = seeded_64 seed m
value_of X3_128 seed m = seeded_128 seed m
