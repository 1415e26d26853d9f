-- A value that takes one unit after another.
use Rattle.std.specs.Prelude.{ℕ, zero, suc}

-- the value a after k steps, where step i takes `unit i`
unfoldable pub after_units : (ℕ → ℕ → ℕ) → (ℕ → ℕ) → ℕ → ℕ → ℕ
after_units step unit a zero = a
after_units step unit a (suc k) = step (after_units step unit a k) (unit k)
