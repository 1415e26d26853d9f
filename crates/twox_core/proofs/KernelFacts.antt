-- Lemmas on kernel computations that differ from the definition: a product of a 64-bit word from the products of its
-- 32-bit halves, and the sums of four stripes.
use Rattle.twox_core.proofs.Prelude.{◌%◌, ◌*◌, ◌+◌, ◌-◌, ◌/◌, ◌^◌, ◌∙◌, ◌≡◌, and_mask, ap, arith, bit_and, ℕ}

parts : (p q : ℕ) → (p % 2 ^ 64 + q % 2 ^ 64 * 2 ^ 32 % 2 ^ 64) % 2 ^ 64 ≡ (q * 2 ^ 32 + p) % 2 ^ 64
parts p q = omega arith

pub split_product : (x f : ℕ) → (bit_and x (2 ^ 32 - 1) * f % 2 ^ 64 + x / 2 ^ 32 * f % 2 ^ 64 * 2 ^ 32 % 2 ^ 64) % 2 ^ 64 ≡ x * f % 2 ^ 64
split_product x f =
    let whole : x / 2 ^ 32 * 2 ^ 32 + x % 2 ^ 32 ≡ x = omega arith in
    let multiplied : (x / 2 ^ 32 * 2 ^ 32 + x % 2 ^ 32) * f ≡ x * f = ap (λ (z : ℕ). z * f) whole in
    let out : x / 2 ^ 32 * f * 2 ^ 32 + x % 2 ^ 32 * f ≡ x * f = omega arith in
    ap (λ (z : ℕ). (z * f % 2 ^ 64 + x / 2 ^ 32 * f % 2 ^ 64 * 2 ^ 32 % 2 ^ 64) % 2 ^ 64) (and_mask x 32)
    ∙ parts (x % 2 ^ 32 * f) (x / 2 ^ 32 * f) ∙ ap (λ (z : ℕ). z % 2 ^ 64) out

-- ---- one accumulator a and four stripes, with the words w, x, y, z and the products p, q, r, s

pub four_sums : (a w x y z p q r s : ℕ)
    → (((((a + p % 2 ^ 64) % 2 ^ 64 + q % 2 ^ 64) % 2 ^ 64 + r % 2 ^ 64) % 2 ^ 64 + s % 2 ^ 64) % 2 ^ 64 + (((w + x) % 2 ^ 64 + y) % 2 ^ 64 + z) % 2 ^ 64) % 2 ^ 64
    ≡ ((((a + w + p) % 2 ^ 64 + x + q) % 2 ^ 64 + y + r) % 2 ^ 64 + z + s) % 2 ^ 64
four_sums a w x y z p q r s = omega arith
