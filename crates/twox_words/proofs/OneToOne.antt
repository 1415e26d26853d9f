-- Lemmas on one-to-one functions on words: the steps of the hashes, below a modulus or 2 ^ width.
use Rattle.std.proofs.Common.{◌≡◌, ℕ, ◌+◌, ◌-◌, ◌*◌, ◌/◌, ◌%◌, ◌^◌, ◌<◌, ◌≤◌, bit_xor, sym, ap, ◌∙◌, arith, mod-lt, pow_pos}
use Rattle.std.specs.Int.{Width, rotate_left}
use mir.Val.{bits}
use Rattle.std.proofs.lemmas.Nat.{xor_comm, xor_lt, xor_shr, shr_le, mul-mod_first, mul-mod_second, div-add-mod'}
use Rattle.std.proofs.lemmas.Nat.Bits.{same_from_bits, bit_at_xor}
use Rattle.std.proofs.Math.Nat.{mul_assoc, mul-one, mod-eq_of_lt, mul-le-mul_left}
use Rattle.std.specs.Int.Bits.{xor_assoc, xor_self, xor_zero_r}
use Rattle.twox_words.specs.Word.{xor_shift}
use Rattle.twox_words.proofs.Rotations.{rotated, turned_back, left_is_rotated, left-lt}

-- True if f is one-to-one on the numbers below n.
abbrev pub IsOneToOne : ℕ → (ℕ → ℕ) → Type 0
IsOneToOne n f = (x y : ℕ) → x < n → y < n → f x ≡ f y → x ≡ y

-- Lemma: f is one-to-one below n if g inverts it there.
pub from_inverse : (n : ℕ) (f g : ℕ → ℕ) → ((x : ℕ) → x < n → g (f x) ≡ x) → IsOneToOne n f
from_inverse n f g inverts x y p q e = sym (inverts x p) ∙ ap g e ∙ inverts y q

-- Lemma: f and then g is one-to-one below n if both are and f maps numbers below n to numbers below n.
pub then_one_to_one : (n : ℕ) (f g : ℕ → ℕ) → ((x : ℕ) → x < n → f x < n) → IsOneToOne n f → IsOneToOne n g → IsOneToOne n (λ x. g (f x))
then_one_to_one n f g below p q x y a b e = p x y a b (q (f x) (f y) (below x a) (below y b) e)

-- ---- xor

xor_twice : (a c : ℕ) → bit_xor (bit_xor a c) c ≡ a
xor_twice a c = xor_assoc a c c ∙ ap (bit_xor a) (xor_self c) ∙ xor_zero_r a

pub xor_cancel_right : (c a b : ℕ) → bit_xor a c ≡ bit_xor b c → a ≡ b
xor_cancel_right c a b e = sym (xor_twice a c) ∙ ap (λ (x : ℕ). bit_xor x c) e ∙ xor_twice b c

pub xor_cancel_left : (c a b : ℕ) → bit_xor c a ≡ bit_xor c b → a ≡ b
xor_cancel_left c a b e = xor_cancel_right c a b (xor_comm a c ∙ e ∙ xor_comm c b)

-- ---- x xor (x >> k)

same_from_xor : (a b : ℕ) → bit_xor a b ≡ 0 → a ≡ b
same_from_xor a b e = sym (xor_twice a b) ∙ ap (λ (x : ℕ). bit_xor x b) e

xor_four : (a b c d : ℕ) → bit_xor (bit_xor a b) (bit_xor c d) ≡ bit_xor (bit_xor a c) (bit_xor b d)
xor_four a b c d = same_from_bits _ _ (λ i. simp bit_at_xor (omega arith))

quotient_zero : (d m : ℕ) → 2 ≤ m → d ≡ d / m → d ≡ 0
quotient_zero d m two e =
    let whole : d * m + d % m ≡ d = ap (λ (x : ℕ). x * m + d % m) e ∙ div-add-mod' d m in
    let more : d * 2 ≤ d * m = mul-le-mul_left d two in omega arith

-- Lemma: x xor (x >> k) determines x. The xor d of two such x equals d / 2 ^ k, so it is zero.
pub xor_shift_told : (k x y : ℕ) → 2 ≤ 2 ^ k → bit_xor x (x / 2 ^ k) ≡ bit_xor y (y / 2 ^ k) → x ≡ y
xor_shift_told k x y two e =
    let d = bit_xor x y in
    let both : bit_xor d (d / 2 ^ k) ≡ 0 =
    ap (bit_xor d) (xor_shr x y k) ∙ xor_four x y (x / 2 ^ k) (y / 2 ^ k) ∙ ap (λ (z : ℕ). bit_xor z (bit_xor y (y / 2 ^ k))) e ∙ xor_self (bit_xor y (y / 2 ^ k)) in
    same_from_xor x y (quotient_zero d (2 ^ k) two (same_from_xor d (d / 2 ^ k) both))

pub xor_shift_one_to_one : (n k : ℕ) → 2 ≤ 2 ^ k → IsOneToOne n (λ x. bit_xor x (x / 2 ^ k))
xor_shift_one_to_one n k two x y p q e = xor_shift_told k x y two e

-- ---- a product by p, which has the inverse q modulo m

pub multiple_back : (p q m x : ℕ) → p * q % m ≡ 1 → x < m → x * p % m * q % m ≡ x
multiple_back p q m x e below =
    mul-mod_first (x * p) q m ∙ ap (λ (z : ℕ). z % m) (mul_assoc x p q) ∙ sym (mul-mod_second x (p * q) m)
    ∙ ap (λ (z : ℕ). x * z % m) e ∙ ap (λ (z : ℕ). z % m) (mul-one x) ∙ mod-eq_of_lt below

pub multiple_one_to_one : (p q m : ℕ) → p * q % m ≡ 1 → IsOneToOne m (λ x. x * p % m)
multiple_one_to_one p q m e = from_inverse m (λ x. x * p % m) (λ x. x * q % m) (λ x below. multiple_back p q m x e below)

-- ---- a sum with a constant

pub sum_one_to_one_32 : (c : ℕ) → IsOneToOne (2 ^ 32) (λ x. (x + c) % 2 ^ 32)
sum_one_to_one_32 c x y p q e = omega arith

pub sum_one_to_one_64 : (c : ℕ) → IsOneToOne (2 ^ 64) (λ x. (x + c) % 2 ^ 64)
sum_one_to_one_64 c x y p q e = omega arith

-- ---- a rotation

pub rotated_one_to_one : (w k : ℕ) → k ≤ w → IsOneToOne (2 ^ w) (λ x. rotated w x k)
rotated_one_to_one w k le = from_inverse (2 ^ w) (λ x. rotated w x k) (λ x. rotated w x (w - k)) (λ x below. turned_back w k x le below)

pub left_one_to_one : (w : Width) (k : ℕ) → 0 < k → k < bits w → IsOneToOne (2 ^ bits w) (λ x. rotate_left w x k)
left_one_to_one w k low high x y p q e =
    rotated_one_to_one (bits w) (bits w - k) (omega arith) x y p q (sym (left_is_rotated w k x low high) ∙ e ∙ left_is_rotated w k y low high)

-- ---- a rotation, then a product by p

pub turned_multiple_told : (w : Width) (k p q : ℕ) → 0 < k → k < bits w → p * q % 2 ^ bits w ≡ 1 → IsOneToOne (2 ^ bits w) (λ x. rotate_left w x k * p % 2 ^ bits w)
turned_multiple_told w k p q low high odd x y a b e =
    left_one_to_one w k low high x y a b (multiple_one_to_one p q (2 ^ bits w) odd _ _ (left-lt w k x low high a) (left-lt w k y low high b) e)

-- ---- the avalanche of both plain hashes: shifts by i, j and k, and products by p and q between them

pub xor_shift-lt : (n k x : ℕ) → x < 2 ^ n → bit_xor x (x / 2 ^ k) < 2 ^ n
xor_shift-lt n k x h = xor_lt n x (x / 2 ^ k) h (omega (arith, shr_le x k))

pub avalanche_told : (n i j k p p' q q' : ℕ) → 2 ≤ 2 ^ i → 2 ≤ 2 ^ j → 2 ≤ 2 ^ k → p * p' % 2 ^ n ≡ 1 → q * q' % 2 ^ n ≡ 1
    → IsOneToOne (2 ^ n) (λ x. xor_shift (xor_shift (xor_shift x i * p % 2 ^ n) j * q % 2 ^ n) k)
avalanche_told n i j k p p' q q' two two' two'' odd odd' x y a b e =
    let below = λ (x c : ℕ). mod-lt (x * c) (pow_pos n) in
    let e4 = xor_shift_one_to_one (2 ^ n) k two'' _ _ (below _ q) (below _ q) e in
    let e3 = multiple_one_to_one q q' (2 ^ n) odd' _ _ (xor_shift-lt n j _ (below _ p)) (xor_shift-lt n j _ (below _ p)) e4 in
    let e2 = xor_shift_one_to_one (2 ^ n) j two' _ _ (below _ p) (below _ p) e3 in
    let e1 = multiple_one_to_one p p' (2 ^ n) odd _ _ (xor_shift-lt n i x a) (xor_shift-lt n i y b) e2 in
    xor_shift_one_to_one (2 ^ n) i two x y a b e1
