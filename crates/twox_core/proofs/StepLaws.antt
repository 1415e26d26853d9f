-- Lemmas on the mixing steps of XXH3 for short inputs: each is one-to-one.
use Rattle.std.proofs.Common.{◌≡◌, ℕ, ◌+◌, ◌-◌, ◌*◌, ◌/◌, ◌%◌, ◌^◌, ◌<◌, ◌≤◌, bit_xor, sym, ap, ap₂, refl, ◌∙◌, arith, lit≤, lit<, mod-lt, pow_pos}
use Rattle.twox_core.proofs.Prelude.{bit_at_xor, div-eq_of_lt, mul-mod_left, prime32_2, prime64_2, prime64_3, prime_mx1, prime_mx2, same_from_bits, swap_bytes, w32, w64, xor_lt, xor_mod, xor_shr, xor_zero_r}
use Rattle.twox_words.proofs.Rotations.{rotated, rotated-lt, rotated-xor, rotated-rotated, whole_turn, turned_back, left_is_rotated, left-lt}
use Rattle.twox_words.proofs.OneToOne.{IsOneToOne, then_one_to_one, xor_cancel_right, xor_shift_told, xor_shift_one_to_one, xor_shift-lt, multiple_one_to_one, rotated_one_to_one, avalanche_told}
use Rattle.twox_core.specs.Steps.{avalanche, avalanche_xxh64}
use Rattle.twox_core.specs.Short.{xor_rotated, strong, mixed_seed, sum_4_to_8, xor_4_to_8, low_4_to_8, high_4_to_8}

product-lt : (x p : ℕ) → x * p % 2 ^ 64 < 2 ^ 64
product-lt x p = mod-lt (x * p) (pow_pos 64)

-- ---- both avalanches

pub avalanche_one_to_one : IsOneToOne (2 ^ 64) avalanche
unfolding avalanche
avalanche_one_to_one =
    then_one_to_one (2 ^ 64) (λ x. bit_xor x (x / 2 ^ 37) * prime_mx1 % 2 ^ 64) (λ x. bit_xor x (x / 2 ^ 32)) (λ x h. product-lt (bit_xor x (x / 2 ^ 37)) prime_mx1)
    (then_one_to_one (2 ^ 64) (λ x. bit_xor x (x / 2 ^ 37)) (λ x. x * prime_mx1 % 2 ^ 64) (xor_shift-lt 64 37)
    (xor_shift_one_to_one (2 ^ 64) 37 (lit≤ tt)) (multiple_one_to_one prime_mx1 0x8da8ee41d6df849 (2 ^ 64) refl))
    (xor_shift_one_to_one (2 ^ 64) 32 (lit≤ tt))

pub avalanche_xxh64_one_to_one : IsOneToOne (2 ^ 64) avalanche_xxh64
unfolding avalanche_xxh64
avalanche_xxh64_one_to_one = avalanche_told 64 33 29 32 prime64_2 0xba79078168d4baf prime64_3 0xe9e9f4c41d6df849 (lit≤ tt) (lit≤ tt) (lit≤ tt) refl refl

-- ---- x xor two rotations of x: applied eight times, it is one rotation

-- Lemma: rotations by j and k bits with j + k ≥ 64 are a rotation by j + k - 64 bits.
past_end : (j k x : ℕ) → j ≤ 64 → k ≤ 64 → 64 ≤ j + k → x < 2 ^ 64 → rotated 64 (rotated 64 x j) k ≡ rotated 64 x (j + k - 64)
past_end j k x a b over below =
    let r : ℕ = j + k - 64 in
    let e : k ≡ r + (64 - j) = omega arith in
    let back = turned_back 64 j x a below in
    let split = rotated-rotated 64 (rotated 64 x j) (64 - j) r (omega arith) (rotated-lt 64 x j below) in
    ap (rotated 64 (rotated 64 x j)) e ∙ sym split ∙ ap (λ (z : ℕ). rotated 64 z r) back

abbrev two_turns : ℕ → ℕ → ℕ → ℕ
two_turns a b x = bit_xor (bit_xor x (rotated 64 x a)) (rotated 64 x b)

xor_nine : (x a b c d e : ℕ)
    → bit_xor (bit_xor (bit_xor (bit_xor x a) b) (bit_xor (bit_xor a c) d)) (bit_xor (bit_xor b d) e) ≡ bit_xor (bit_xor x c) e
xor_nine x a b c d e = same_from_bits _ _ (λ i. simp bit_at_xor (omega arith))

rotated_turns : (a b k x : ℕ) → k ≤ 64 → x < 2 ^ 64
    → rotated 64 (two_turns a b x) k ≡ bit_xor (bit_xor (rotated 64 x k) (rotated 64 (rotated 64 x a) k)) (rotated 64 (rotated 64 x b) k)
rotated_turns a b k x le h =
    rotated-xor 64 (bit_xor x (rotated 64 x a)) (rotated 64 x b) k le (xor_lt 64 _ _ h (rotated-lt 64 x a h)) (rotated-lt 64 x b h)
    ∙ ap (λ (z : ℕ). bit_xor z (rotated 64 (rotated 64 x b) k)) (rotated-xor 64 x (rotated 64 x a) k le h (rotated-lt 64 x a h))

-- Lemma: two_turns a b applied twice is two_turns c d, with c and d the double rotations.
turns_twice : (a b c d x : ℕ) → a ≤ 64 → b ≤ 64 → x < 2 ^ 64
    → rotated 64 (rotated 64 x a) a ≡ rotated 64 x c → rotated 64 (rotated 64 x b) b ≡ rotated 64 x d
    → rotated 64 (rotated 64 x b) a ≡ rotated 64 (rotated 64 x a) b
    → two_turns a b (two_turns a b x) ≡ two_turns c d x
turns_twice a b c d x la lb h ea eb both =
    ap₂ (λ (u v : ℕ). bit_xor (bit_xor (two_turns a b x) u) v)
    (rotated_turns a b a x la h ∙ ap₂ (λ (u v : ℕ). bit_xor (bit_xor (rotated 64 x a) u) v) ea both)
    (rotated_turns a b b x lb h ∙ ap (λ (v : ℕ). bit_xor (bit_xor (rotated 64 x b) (rotated 64 (rotated 64 x a) b)) v) eb)
    ∙ xor_nine x (rotated 64 x a) (rotated 64 x b) (rotated 64 x c) (rotated 64 (rotated 64 x a) b) (rotated 64 x d)

once : (x : ℕ) → x < 2 ^ 64 → two_turns 15 40 (two_turns 15 40 x) ≡ two_turns 30 16 x
once x h = turns_twice 15 40 30 16 x (lit≤ tt) (lit≤ tt) h (rotated-rotated 64 x 15 15 (lit≤ tt) h) (past_end 40 40 x (lit≤ tt) (lit≤ tt) (lit≤ tt) h)
    (rotated-rotated 64 x 40 15 (lit≤ tt) h ∙ sym (rotated-rotated 64 x 15 40 (lit≤ tt) h))

twice : (x : ℕ) → x < 2 ^ 64 → two_turns 30 16 (two_turns 30 16 x) ≡ two_turns 60 32 x
twice x h = turns_twice 30 16 60 32 x (lit≤ tt) (lit≤ tt) h (rotated-rotated 64 x 30 30 (lit≤ tt) h) (rotated-rotated 64 x 16 16 (lit≤ tt) h)
    (rotated-rotated 64 x 16 30 (lit≤ tt) h ∙ sym (rotated-rotated 64 x 30 16 (lit≤ tt) h))

thrice : (x : ℕ) → x < 2 ^ 64 → two_turns 60 32 (two_turns 60 32 x) ≡ two_turns 56 64 x
thrice x h = turns_twice 60 32 56 64 x (lit≤ tt) (lit≤ tt) h (past_end 60 60 x (lit≤ tt) (lit≤ tt) (lit≤ tt) h) (rotated-rotated 64 x 32 32 (lit≤ tt) h)
    (past_end 32 60 x (lit≤ tt) (lit≤ tt) (lit≤ tt) h ∙ sym (past_end 60 32 x (lit≤ tt) (lit≤ tt) (lit≤ tt) h))

xor_back : (x a : ℕ) → bit_xor (bit_xor x a) x ≡ a
xor_back x a = same_from_bits _ _ (λ i. simp bit_at_xor (omega arith))

last_turn : (x : ℕ) → x < 2 ^ 64 → two_turns 56 64 x ≡ rotated 64 x 56
last_turn x h = ap (bit_xor (bit_xor x (rotated 64 x 56))) (whole_turn 64 x h) ∙ xor_back x (rotated 64 x 56)

turns_one_to_one : IsOneToOne (2 ^ 64) (two_turns 15 40)
turns_one_to_one x y p q e =
    let e2 : two_turns 30 16 x ≡ two_turns 30 16 y = sym (once x p) ∙ ap (two_turns 15 40) e ∙ once y q in
    let e4 : two_turns 60 32 x ≡ two_turns 60 32 y = sym (twice x p) ∙ ap (two_turns 30 16) e2 ∙ twice y q in
    let e8 : two_turns 56 64 x ≡ two_turns 56 64 y = sym (thrice x p) ∙ ap (two_turns 60 32) e4 ∙ thrice y q in
    rotated_one_to_one 64 56 (lit≤ tt) x y p q (sym (last_turn x p) ∙ e8 ∙ last_turn y q)

xor_rotated_one_to_one : IsOneToOne (2 ^ 64) xor_rotated
xor_rotated_one_to_one x y p q e =
    let same : (z : ℕ) → xor_rotated z ≡ two_turns 15 40 z = λ z. ap₂ (λ (u v : ℕ). bit_xor (bit_xor z u) v) (left_is_rotated w64 49 z (lit< tt) (lit< tt)) (left_is_rotated w64 24 z (lit< tt) (lit< tt)) in
    turns_one_to_one x y p q (sym (same x) ∙ e ∙ same y)

xor_rotated-lt : (x : ℕ) → x < 2 ^ 64 → xor_rotated x < 2 ^ 64
xor_rotated-lt x h = xor_lt 64 _ _ (xor_lt 64 _ _ h (left-lt w64 49 x (lit< tt) (lit< tt) h)) (left-lt w64 24 x (lit< tt) (lit< tt) h)

-- ---- the strong mixing, for lengths up to 8

length_step_told : (n : ℕ) → n ≤ 8 → IsOneToOne (2 ^ 64) (λ x. bit_xor x (x / 2 ^ 35 + n))
length_step_told n le x y p q e =
    let small_x : x / 2 ^ 35 + n < 2 ^ 35 = omega arith in
    let small_y : y / 2 ^ 35 + n < 2 ^ 35 = omega arith in
    let none_x : (x / 2 ^ 35 + n) / 2 ^ 35 ≡ 0 = div-eq_of_lt small_x in
    let none_y : (y / 2 ^ 35 + n) / 2 ^ 35 ≡ 0 = div-eq_of_lt small_y in
    let high_x : bit_xor x (x / 2 ^ 35 + n) / 2 ^ 35 ≡ x / 2 ^ 35 = xor_shr x (x / 2 ^ 35 + n) 35 ∙ ap (bit_xor (x / 2 ^ 35)) none_x ∙ xor_zero_r (x / 2 ^ 35) in
    let high_y : bit_xor y (y / 2 ^ 35 + n) / 2 ^ 35 ≡ y / 2 ^ 35 = xor_shr y (y / 2 ^ 35 + n) 35 ∙ ap (bit_xor (y / 2 ^ 35)) none_y ∙ xor_zero_r (y / 2 ^ 35) in
    let high : x / 2 ^ 35 ≡ y / 2 ^ 35 = sym high_x ∙ ap (λ (z : ℕ). z / 2 ^ 35) e ∙ high_y in
    xor_cancel_right (y / 2 ^ 35 + n) x y (ap (λ (z : ℕ). bit_xor x (z + n)) (sym high) ∙ e)

length_step-lt : (n x : ℕ) → n ≤ 8 → x < 2 ^ 64 → bit_xor x (x / 2 ^ 35 + n) < 2 ^ 64
length_step-lt n x le h = xor_lt 64 x (x / 2 ^ 35 + n) h (omega arith)

pub strong_one_to_one : (n : ℕ) → n ≤ 8 → IsOneToOne (2 ^ 64) (strong n)
unfolding strong
strong_one_to_one n le x y p q e =
    let x1 = xor_rotated x * prime_mx2 % 2 ^ 64 in
    let y1 = xor_rotated y * prime_mx2 % 2 ^ 64 in
    let x2 = bit_xor x1 (x1 / 2 ^ 35 + n) in
    let y2 = bit_xor y1 (y1 / 2 ^ 35 + n) in
    let bx : x1 < 2 ^ 64 = product-lt _ prime_mx2 in
    let by : y1 < 2 ^ 64 = product-lt _ prime_mx2 in
    let e3 = xor_shift_told 28 (x2 * prime_mx2 % 2 ^ 64) (y2 * prime_mx2 % 2 ^ 64) (lit≤ tt) e in
    let e2 = multiple_one_to_one prime_mx2 0x2ab9c720d1024ad (2 ^ 64) refl x2 y2 (length_step-lt n x1 le bx) (length_step-lt n y1 le by) e3 in
    let e1 = length_step_told n le x1 y1 bx by e2 in
    let e0 = multiple_one_to_one prime_mx2 0x2ab9c720d1024ad (2 ^ 64) refl (xor_rotated x) (xor_rotated y) (xor_rotated-lt x p) (xor_rotated-lt y q) e1 in
    xor_rotated_one_to_one x y p q e0

-- ---- the mixed seed of 4 to 8 bytes: its low half is the seed's, so the high half is determined

pub mixed_seed_one_to_one : IsOneToOne (2 ^ 64) mixed_seed
unfolding mixed_seed
mixed_seed_one_to_one x y p q e =
    let low : (z : ℕ) → bit_xor z (swap_bytes w32 (z % 2 ^ 32) * 2 ^ 32) % 2 ^ 32 ≡ z % 2 ^ 32 =
    λ z. xor_mod z (swap_bytes w32 (z % 2 ^ 32) * 2 ^ 32) 32 ∙ ap (bit_xor (z % 2 ^ 32)) (mul-mod_left (swap_bytes w32 (z % 2 ^ 32)) (2 ^ 32)) ∙ xor_zero_r (z % 2 ^ 32) in
    let same : x % 2 ^ 32 ≡ y % 2 ^ 32 = sym (low x) ∙ ap (λ (z : ℕ). z % 2 ^ 32) e ∙ low y in
    xor_cancel_right (swap_bytes w32 (y % 2 ^ 32) * 2 ^ 32) x y (ap (λ (z : ℕ). bit_xor x (swap_bytes w32 z * 2 ^ 32)) (sym same) ∙ e)

pub mixed_seed-lt : (x : ℕ) → x < 2 ^ 64 → mixed_seed x < 2 ^ 64
unfolding mixed_seed
mixed_seed-lt x h =
    let half : swap_bytes w32 (x % 2 ^ 32) < 2 ^ 32 = omega arith in
    xor_lt 64 x (swap_bytes w32 (x % 2 ^ 32) * 2 ^ 32) h (omega arith)

pub difference_one_to_one : (c : ℕ) → IsOneToOne (2 ^ 64) (λ x. (c + (2 ^ 64 - x)) % 2 ^ 64)
difference_one_to_one c x y p q e = omega arith

-- ---- 4 to 8 bytes at 128 bits: both halves come from the full product of x and an odd factor

pub four128_one_to_one : (p q : ℕ) → p * q % 2 ^ 64 ≡ 1 → (x y : ℕ) → x < 2 ^ 64 → y < 2 ^ 64
    → low_4_to_8 (x * p) ≡ low_4_to_8 (y * p) → high_4_to_8 (x * p) ≡ high_4_to_8 (y * p) → x ≡ y
unfolding low_4_to_8 high_4_to_8
four128_one_to_one p q odd x y bx by low high =
    let sx : sum_4_to_8 (x * p) < 2 ^ 64 = mod-lt _ (pow_pos 64) in
    let sy : sum_4_to_8 (y * p) < 2 ^ 64 = mod-lt _ (pow_pos 64) in
    let hx : xor_4_to_8 (x * p) < 2 ^ 64 = xor_lt 64 (x * p % 2 ^ 64) (sum_4_to_8 (x * p) / 2 ^ 3) (product-lt x p) (omega arith) in
    let hy : xor_4_to_8 (y * p) < 2 ^ 64 = xor_lt 64 (y * p % 2 ^ 64) (sum_4_to_8 (y * p) / 2 ^ 3) (product-lt y p) (omega arith) in
    let sums : sum_4_to_8 (x * p) ≡ sum_4_to_8 (y * p) = avalanche_one_to_one _ _ sx sy high in
    let e3 = xor_shift_told 28 _ _ (lit≤ tt) low in
    let e2 = multiple_one_to_one prime_mx2 0x2ab9c720d1024ad (2 ^ 64) refl _ _ (xor_shift-lt 64 35 _ hx) (xor_shift-lt 64 35 _ hy) e3 in
    let e1 : xor_4_to_8 (x * p) ≡ xor_4_to_8 (y * p) = xor_shift_told 35 _ _ (lit≤ tt) e2 in
    let e0 : x * p % 2 ^ 64 ≡ y * p % 2 ^ 64 =
    xor_cancel_right (sum_4_to_8 (y * p) / 2 ^ 3) _ _ (ap (λ (z : ℕ). bit_xor (x * p % 2 ^ 64) (z / 2 ^ 3)) (sym sums) ∙ e1) in
    multiple_one_to_one p q (2 ^ 64) odd x y bx by e0

-- ---- 9 to 16 bytes at 128 bits

-- Lemma: multiplying by prime64_2 modulo 2 ^ 128 is one-to-one.
pub wide_one_to_one : IsOneToOne (2 ^ 128) (λ x. x * prime64_2 % 2 ^ 128)
wide_one_to_one = multiple_one_to_one prime64_2 0xd5c9f24e5c2d4370ba79078168d4baf (2 ^ 128) refl

-- Lemma: the high half of the second word plus its low half times an odd number is one-to-one.
pub second_word_one_to_one : IsOneToOne (2 ^ 64) (λ x. (x / 2 ^ 32 * 2 ^ 32 + x % 2 ^ 32 * prime32_2) % 2 ^ 64)
second_word_one_to_one x y a b e =
    let low_x : x % 2 ^ 32 < 2 ^ 32 = mod-lt x (pow_pos 32) in
    let low_y : y % 2 ^ 32 < 2 ^ 32 = mod-lt y (pow_pos 32) in
    let px = x % 2 ^ 32 * prime32_2 in
    let py = y % 2 ^ 32 * prime32_2 in
    let same_low : px % 2 ^ 32 ≡ py % 2 ^ 32 = omega arith in
    let low : x % 2 ^ 32 ≡ y % 2 ^ 32 = multiple_one_to_one prime32_2 0xb6c92f47 (2 ^ 32) refl (x % 2 ^ 32) (y % 2 ^ 32) low_x low_y same_low in
    let product : px ≡ py = ap (λ (z : ℕ). z * prime32_2) low in
    omega arith
