use Rattle.std.proofs.Common.{◌≡◌, ◌*◌, ◌++◌, drop}
use Rattle.twox_core.specs.Secret.{derived_pairs}
use Rattle.twox_core.proofs.xxhash3.derivation.derive_secret.Given as goal

abbrev pub invariant-loop-k : goal.invariant-loop-k
invariant-loop-k l = l.secret ≡ derived_pairs l.seed l.initial.secret (2 * l.k) ++ drop (32 * l.k) l.initial.secret
