-- Lemmas on the product of two 64-bit words from the products of their 32-bit halves.
use Rattle.std.proofs.Common.{◌≡◌, ℕ, ◌+◌, ◌*◌, ◌/◌, ◌%◌, ◌^◌, sym, ap, ◌∙◌, arith}
use Rattle.std.proofs.lemmas.Nat.{shr_split}
use Rattle.std.proofs.Math.Nat.{mul_assoc, mul_comm, mul-mul-mul_comm, mul-add, add-mul}
use Rattle.symbolic_rules.specs.Product.{second_sum, upper_word}

-- Lemma: y and z commute in x * y * z.
turned : (x y z : ℕ) → x * y * z ≡ x * z * y
turned x y z = mul_assoc x y z ∙ ap (λ (t : ℕ). x * t) (mul_comm y z) ∙ sym (mul_assoc x z y)

-- Lemma: the product of two numbers expands to the products of their halves.
by_halves : (a0 a1 b0 b1 : ℕ)
    → (a1 * 2 ^ 32 + a0) * (b1 * 2 ^ 32 + b0) ≡ a1 * b1 * 2 ^ 64 + (a0 * b1 + a1 * b0) * 2 ^ 32 + a0 * b0
by_halves a0 a1 b0 b1 =
    let apart = add-mul (a1 * 2 ^ 32) a0 (b1 * 2 ^ 32 + b0) in
    let upper = mul-add (a1 * 2 ^ 32) (b1 * 2 ^ 32) b0 in
    let lower = mul-add a0 (b1 * 2 ^ 32) b0 in
    let highest : a1 * 2 ^ 32 * (b1 * 2 ^ 32) ≡ a1 * b1 * 2 ^ 64 = mul-mul-mul_comm a1 (2 ^ 32) b1 (2 ^ 32) in
    let one = turned a1 (2 ^ 32) b0 in
    let other : a0 * (b1 * 2 ^ 32) ≡ a0 * b1 * 2 ^ 32 = sym (mul_assoc a0 b1 (2 ^ 32)) in
    omega (arith, apart, upper, lower, highest, one, other)

-- Lemma: the product of two words expands to the products of their high and low 32 bits.
of_words : (a b : ℕ) → a * b ≡ a / 2 ^ 32 * (b / 2 ^ 32) * 2 ^ 64
    + (a % 2 ^ 32 * (b / 2 ^ 32) + a / 2 ^ 32 * (b % 2 ^ 32)) * 2 ^ 32 + a % 2 ^ 32 * (b % 2 ^ 32)
of_words a b =
    let whole : a * b ≡ (a / 2 ^ 32 * 2 ^ 32 + a % 2 ^ 32) * (b / 2 ^ 32 * 2 ^ 32 + b % 2 ^ 32) =
    sym (ap (λ (x : ℕ). x * (b / 2 ^ 32 * 2 ^ 32 + b % 2 ^ 32)) (shr_split a 32) ∙ ap (λ (x : ℕ). a * x) (shr_split b 32)) in
    whole ∙ by_halves (a % 2 ^ 32) (a / 2 ^ 32) (b % 2 ^ 32) (b / 2 ^ 32)

-- Lemma: the sums with their carries are the part of n above its lower word.
carried : (n p q r s : ℕ) → n ≡ s * 2 ^ 64 + (q + r) * 2 ^ 32 + p
    → (s + (r + p / 2 ^ 32) / 2 ^ 32 + ((r + p / 2 ^ 32) % 2 ^ 32 + q) / 2 ^ 32) * 2 ^ 64 + n % 2 ^ 64 ≡ n
carried n p q r s whole = omega (arith, whole)

-- Lemma: the lower word is the lower half of the second sum above the lower half of p.
left_over : (n p q r s : ℕ) → n ≡ s * 2 ^ 64 + (q + r) * 2 ^ 32 + p
    → n % 2 ^ 64 ≡ ((r + p / 2 ^ 32) % 2 ^ 32 + q) % 2 ^ 32 * 2 ^ 32 + p % 2 ^ 32
left_over n p q r s whole = omega (arith, whole)

pub product : (a b : ℕ) → upper_word a b * 2 ^ 64 + a * b % 2 ^ 64 ≡ a * b
product a b =
    carried (a * b) (a % 2 ^ 32 * (b % 2 ^ 32)) (a % 2 ^ 32 * (b / 2 ^ 32)) (a / 2 ^ 32 * (b % 2 ^ 32)) (a / 2 ^ 32 * (b / 2 ^ 32)) (of_words a b)

pub lower : (a b : ℕ) → a * b % 2 ^ 64 ≡ second_sum a b % 2 ^ 32 * 2 ^ 32 + a % 2 ^ 32 * (b % 2 ^ 32) % 2 ^ 32
lower a b =
    left_over (a * b) (a % 2 ^ 32 * (b % 2 ^ 32)) (a % 2 ^ 32 * (b / 2 ^ 32)) (a / 2 ^ 32 * (b % 2 ^ 32)) (a / 2 ^ 32 * (b / 2 ^ 32)) (of_words a b)
