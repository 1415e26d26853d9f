-- XXH64's avalanche, as the definition of XXH3 has it, equals the avalanche in the definition of XXH64.
use Rattle.std.proofs.Common.{◌≡◌, ℕ, refl}
use Rattle.twox_plain.specs.Xxh64.{avalanche}
use Rattle.twox_core.specs.Steps.{avalanche_xxh64}

pub avalanche_xxh64-avalanche : (x : ℕ) → avalanche_xxh64 x ≡ avalanche x
unfolding avalanche_xxh64
avalanche_xxh64-avalanche x = refl
