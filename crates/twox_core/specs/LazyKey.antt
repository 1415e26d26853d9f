-- What clauses see of a key that derives its secret.
use Rattle.std.specs.Prelude.{ℕ, Option, Some, List}
use Rattle.std.specs.Box.{boxed_slice_items}
use Rattle.twox_core.specs.Secret.{derived_secret}
use Rattle.twox_core.specs.declared.xxhash3.streaming.lazy_key.LazyKey.{LazyKey}
use Rattle.twox_core.specs.declared.xxhash3.streaming.lazy_key.LazyKey.TheVariants.{Derived, Given}

-- the seed, if there is one
unfoldable pub seed_of : {A : Type 0} → LazyKey A → Option ℕ
seed_of (Derived seed _) = Some seed
seed_of (Given buffer) = buffer.seed

-- the bytes of the secret
unfoldable pub secret_of : {A : Type 0} → LazyKey A → List ℕ
secret_of (Derived seed _) = derived_secret seed
secret_of (Given buffer) = boxed_slice_items buffer.secret
