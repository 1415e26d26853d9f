-- The number of digits of each algorithm, and its seeds.
use Rattle.std.specs.Prelude.{ℕ, ◌^◌}
use Rattle.xxh_io.specs.declared.kind.Kind.{Kind}
use Rattle.xxh_io.specs.declared.kind.Kind.TheVariants.{X32, X64, X3_64, X3_128}

-- the number of digits of its line
abbrev pub digits_of : Kind → ℕ
digits_of X32 = 8
digits_of X64 = 16
digits_of X3_64 = 16
digits_of X3_128 = 32

-- the seeds of an algorithm are below this
abbrev pub seed_limit : Kind → ℕ
seed_limit X32 = 2 ^ 32
seed_limit X64 = 2 ^ 64
seed_limit X3_64 = 2 ^ 64
seed_limit X3_128 = 2 ^ 64
