-- What clauses see of a secret buffer: its seed, if it was made with one, and the holder of its secret.
use Rattle.std.specs.Prelude.{ℕ, Option}

pub record StreamKey (S : Type 0) : Type 0 where
  pub seed : Option ℕ
  pub secret : S
