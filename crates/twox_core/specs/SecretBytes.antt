-- What a secret and its views hold.
use Rattle.std.specs.Prelude.{ℕ, List}
use Rattle.twox_core.specs.declared.xxhash3.secret.Secret.{Secret}
use Rattle.twox_core.specs.declared.xxhash3.secret.Secret64BitView.{Secret64BitView}
use Rattle.twox_core.specs.declared.xxhash3.secret.Secret128BitView.{Secret128BitView}

abbrev pub secret_bytes : Secret → List ℕ
secret_bytes s = s.bytes.now

-- the bytes of the secret that is viewed
abbrev pub viewed_by_64 : Secret64BitView → List ℕ
viewed_by_64 v = secret_bytes v.secret

abbrev pub viewed_by_128 : Secret128BitView → List ℕ
viewed_by_128 v = secret_bytes v.secret
