-- Lemmas that prove the rules of oracle/symbolic from std's lemmas on naturals.
use Rattle.std.proofs.Common.{◌≡◌, ℕ, ◌+◌, ◌-◌, ◌*◌, ◌/◌, ◌%◌, ◌^◌, ◌<◌, ◌≤◌, bit_and, bit_or, bit_xor, min, sym, ap, ◌∙◌, arith}
use Rattle.std.proofs.lemmas.Nat.{and_comm, and-not, field_of, le_or_r, mul-mod, or_disjoint, or_lt, pow_pos, pow-add, shr_split, xor_comm}
use Rattle.std.proofs.lemmas.Nat.Bits.{bit_at_and, bit_at_or, bit_at_xor, bit_at-lt, bit_at-zero, same_from_bits}
use Rattle.std.proofs.Math.Nat.{mul_assoc, mul_comm, mul-mul-mul_comm, mul-add, add-mul-div_right, add-mul-mod_self_right, add-mod, add-mod-mod}
use Rattle.std.specs.Int.{bit_at}
use Rattle.std.specs.Int.Bits.{xor_assoc, xor_self, xor_zero_r}

-- Lemma: c * P * (q * J + r) is the sum of its parts. The rules take powers J with P * J a multiple of W.
pub times_parts : (c P q J r : ℕ) → c * P * (q * J + r) ≡ c * P * r + c * q * (P * J)
times_parts c P q J r = mul-add (c * P) (q * J) r ∙ omega (arith, mul-mul-mul_comm c P q J)

pub joined_coefficients : (c v k : ℕ) → c * 2 ^ k * (v / 2 ^ k) + c * (v % 2 ^ k) ≡ c * v
joined_coefficients c v k =
    let whole : c * (v / 2 ^ k * 2 ^ k + v % 2 ^ k) ≡ c * v = ap (λ (x : ℕ). c * x) (shr_split v k) in
    let apart : c * (v / 2 ^ k * 2 ^ k + v % 2 ^ k) ≡ c * (v / 2 ^ k * 2 ^ k) + c * (v % 2 ^ k) = mul-add c (v / 2 ^ k * 2 ^ k) (v % 2 ^ k) in
    let turned : c * (v / 2 ^ k * 2 ^ k) ≡ c * 2 ^ k * (v / 2 ^ k) = ap (λ (x : ℕ). c * x) (mul_comm (v / 2 ^ k) (2 ^ k)) ∙ sym (mul_assoc c (2 ^ k) (v / 2 ^ k)) in
    omega (arith, whole, apart, turned)

pub narrowed_factor : (c v j k w : ℕ) → w ≤ j + k → (c * 2 ^ k * (v % 2 ^ j)) % 2 ^ w ≡ (c * 2 ^ k * v) % 2 ^ w
narrowed_factor c v j k w fits =
    let d = j + k - w in
    let powers : 2 ^ k * 2 ^ j ≡ 2 ^ d * 2 ^ w =
    sym (pow-add 2 k j) ∙ ap (λ (x : ℕ). 2 ^ x) (omega (arith, fits)) ∙ pow-add 2 d w in
    let whole : c * 2 ^ k * v ≡ c * 2 ^ k * (v % 2 ^ j) + c * (v / 2 ^ j) * 2 ^ d * 2 ^ w =
    ap (λ (x : ℕ). c * 2 ^ k * x) (sym (shr_split v j))
    ∙ times_parts c (2 ^ k) (v / 2 ^ j) (2 ^ j) (v % 2 ^ j)
    ∙ ap (λ (x : ℕ). c * 2 ^ k * (v % 2 ^ j) + c * (v / 2 ^ j) * x) powers
    ∙ ap (λ (x : ℕ). c * 2 ^ k * (v % 2 ^ j) + x) (sym (mul_assoc (c * (v / 2 ^ j)) (2 ^ d) (2 ^ w))) in
    sym (add-mul-mod_self_right (c * 2 ^ k * (v % 2 ^ j)) (c * (v / 2 ^ j) * 2 ^ d) (2 ^ w)) ∙ ap (λ (x : ℕ). x % 2 ^ w) (sym whole)

pub narrowed_twice : (v j w : ℕ) → w ≤ j → v % 2 ^ j % 2 ^ w ≡ v % 2 ^ w
narrowed_twice v j w fits =
    let d = j - w in
    let powers : 2 ^ j ≡ 2 ^ d * 2 ^ w = ap (λ (x : ℕ). 2 ^ x) (omega (arith, fits)) ∙ pow-add 2 d w in
    let whole : v % 2 ^ j + v / 2 ^ j * 2 ^ d * 2 ^ w ≡ v =
    ap (λ (x : ℕ). v % 2 ^ j + x) (mul_assoc (v / 2 ^ j) (2 ^ d) (2 ^ w) ∙ ap (λ (x : ℕ). v / 2 ^ j * x) (sym powers))
    ∙ omega (arith, shr_split v j) in
    sym (add-mul-mod_self_right (v % 2 ^ j) (v / 2 ^ j * 2 ^ d) (2 ^ w)) ∙ ap (λ (x : ℕ). x % 2 ^ w) whole

pub narrowed_sum : (a b w : ℕ) → (a + b) % 2 ^ w ≡ (a % 2 ^ w + b % 2 ^ w) % 2 ^ w
narrowed_sum a b w = add-mod a b (2 ^ w)

pub narrowed_product : (a b w : ℕ) → (a * b) % 2 ^ w ≡ (a % 2 ^ w * (b % 2 ^ w)) % 2 ^ w
narrowed_product a b w = mul-mod a b (2 ^ w)

high_of_a_whole_sum : (r y k : ℕ) → (y * 2 ^ k + r) / 2 ^ k ≡ y + r / 2 ^ k
high_of_a_whole_sum r y k = ap (λ (x : ℕ). x / 2 ^ k) (omega arith) ∙ add-mul-div_right r y (pow_pos k) ∙ omega arith

pub high_of_a_sum : (r y k w : ℕ) → k ≤ w → (y * 2 ^ k + r) % 2 ^ w / 2 ^ k ≡ (y + r % 2 ^ w / 2 ^ k) % 2 ^ (w - k)
high_of_a_sum r y k w fits =
    let j = w - k in
    let e : w ≡ j + k = omega (arith, fits) in
    let upper : (y * 2 ^ k + r) % 2 ^ w / 2 ^ k ≡ (y + r / 2 ^ k) % 2 ^ j =
    ap (λ (x : ℕ). (y * 2 ^ k + r) % 2 ^ x / 2 ^ k) e ∙ field_of (y * 2 ^ k + r) j k
    ∙ ap (λ (x : ℕ). x % 2 ^ j) (high_of_a_whole_sum r y k) in
    let field : r % 2 ^ w / 2 ^ k ≡ r / 2 ^ k % 2 ^ j = ap (λ (x : ℕ). r % 2 ^ x / 2 ^ k) e ∙ field_of r j k in
    upper ∙ sym (add-mod-mod y (r / 2 ^ k) (2 ^ j)) ∙ ap (λ (x : ℕ). (y + x) % 2 ^ j) (sym field)

-- ---- bits

pub ruleset xor_laws = (xor_comm, xor_assoc, xor_self, xor_zero_r)

and_self : (a : ℕ) → bit_and a a ≡ a
and_self a = same_from_bits _ _ (λ i. bit_at_and a a i ∙ omega arith)

pub union_is_xor : (a b : ℕ) → bit_and a b ≡ 0 → bit_or a b ≡ bit_xor a b
union_is_xor a b apart = same_from_bits _ _ (λ i.
    let none : min (bit_at a i) (bit_at b i) ≡ 0 = sym (bit_at_and a b i) ∙ ap (λ (x : ℕ). bit_at x i) apart ∙ bit_at-zero i in
    let x = bit_at-lt a i in
    let y = bit_at-lt b i in
    bit_at_or a b i ∙ omega (arith, none, x, y) ∙ sym (bit_at_xor a b i))

pub sum_is_xor : (a b : ℕ) → bit_and a b ≡ 0 → a + b ≡ bit_xor a b
sum_is_xor a b apart = sym (or_disjoint a b apart) ∙ union_is_xor a b apart

pub union_with_ones : (v k : ℕ) → v < 2 ^ k → bit_or v (2 ^ k - 1) ≡ 2 ^ k - 1
union_with_ones v k low =
    let below : bit_or v (2 ^ k - 1) < 2 ^ k = or_lt k v (2 ^ k - 1) low (omega (arith, pow_pos k)) in
    omega (arith, below, le_or_r v (2 ^ k - 1))

pub complement : (v k : ℕ) → v < 2 ^ k → bit_xor v (2 ^ k - 1) ≡ 2 ^ k - 1 - v
complement v k low =
    let others = 2 ^ k - 1 - v in
    let apart : bit_and v others ≡ 0 = and_comm v others ∙ omega (arith, and-not k v v low low, and_self v) in
    let whole : 2 ^ k - 1 ≡ bit_xor v others = omega (arith, low) ∙ sum_is_xor v others apart in
    ap (bit_xor v) whole ∙ sym (xor_assoc v v others) ∙ ap (λ (x : ℕ). bit_xor x others) (xor_self v) ∙ xor_comm 0 others ∙ xor_zero_r others
