-- Lemmas on vectors of 64-bit words read as vectors of their 32-bit halves, and back.
use Rattle.std.proofs.Common.{◌≡◌, ℕ, zero, suc, ◌+◌, ◌*◌, ◌/◌, ◌%◌, ◌^◌, ◌<◌, [], ◌∷◌, ap, ◌∙◌, arith, div-add-mod', div-lt_iff_lt-mul, pow-suc}
use lib.Lanes.{number_l, digits_l}

number_of_digits : (n x : ℕ) → x < 256 ^ n → number_l 256 (digits_l 256 n x) ≡ x
number_of_digits zero x h = omega arith
number_of_digits (suc n) x h =
    let positive : 0 < 256 = omega arith in
    let less : x / 256 < 256 ^ n = (div-lt_iff_lt-mul positive).1 (rw (← pow-suc 256 n) h) in
    rw (number_of_digits n (x / 256) less) (omega (arith, div-add-mod' x 256))

split_one : (n a x : ℕ) → a < 2 ^ 64
    → digits_l (2 ^ 32) (suc (suc n)) (a + 2 ^ 64 * x) ≡ a % 2 ^ 32 ∷ a / 2 ^ 32 ∷ digits_l (2 ^ 32) n x
split_one n a x A =
    let low : (a + 2 ^ 64 * x) % 2 ^ 32 ≡ a % 2 ^ 32 = omega arith in
    let high : (a + 2 ^ 64 * x) / 2 ^ 32 % 2 ^ 32 ≡ a / 2 ^ 32 = omega arith in
    let on : (a + 2 ^ 64 * x) / 2 ^ 32 / 2 ^ 32 ≡ x = omega arith in
    λ i. low i ∷ high i ∷ digits_l (2 ^ 32) n (on i)

join_one : (n a b x : ℕ) → a < 2 ^ 32 → b < 2 ^ 32
    → digits_l (2 ^ 64) (suc n) (a + 2 ^ 32 * (b + 2 ^ 32 * x)) ≡ (a + 2 ^ 32 * b) ∷ digits_l (2 ^ 64) n x
join_one n a b x A B =
    let low : (a + 2 ^ 32 * (b + 2 ^ 32 * x)) % 2 ^ 64 ≡ a + 2 ^ 32 * b = omega arith in
    let on : (a + 2 ^ 32 * (b + 2 ^ 32 * x)) / 2 ^ 64 ≡ x = omega arith in
    λ i. low i ∷ digits_l (2 ^ 64) n (on i)

-- Lemma: two words read as four 32-bit lanes are the low and the high half of each word.
pub split_two : (a b : ℕ) → a < 2 ^ 64 → b < 2 ^ 64
    → digits_l (2 ^ 32) 4 (number_l 256 (digits_l 256 16 (number_l (2 ^ 64) (a ∷ b ∷ []))))
    ≡ a % 2 ^ 32 ∷ a / 2 ^ 32 ∷ b % 2 ^ 32 ∷ b / 2 ^ 32 ∷ []
split_two a b A B =
    ap (digits_l (2 ^ 32) 4) (number_of_digits 16 (number_l (2 ^ 64) (a ∷ b ∷ [])) (omega arith))
    ∙ split_one 2 a _ A
    ∙ ap (λ l. a % 2 ^ 32 ∷ a / 2 ^ 32 ∷ l) (split_one 0 b 0 B)

-- Lemma: four words read as eight 32-bit lanes are the low and the high half of each word.
pub split_four : (a b c d : ℕ) → a < 2 ^ 64 → b < 2 ^ 64 → c < 2 ^ 64 → d < 2 ^ 64
    → digits_l (2 ^ 32) 8 (number_l 256 (digits_l 256 32 (number_l (2 ^ 64) (a ∷ b ∷ c ∷ d ∷ []))))
    ≡ a % 2 ^ 32 ∷ a / 2 ^ 32 ∷ b % 2 ^ 32 ∷ b / 2 ^ 32 ∷ c % 2 ^ 32 ∷ c / 2 ^ 32 ∷ d % 2 ^ 32 ∷ d / 2 ^ 32 ∷ []
split_four a b c d A B C D =
    ap (digits_l (2 ^ 32) 8) (number_of_digits 32 (number_l (2 ^ 64) (a ∷ b ∷ c ∷ d ∷ [])) (omega arith))
    ∙ split_one 6 a _ A
    ∙ ap (λ l. a % 2 ^ 32 ∷ a / 2 ^ 32 ∷ l) (split_one 4 b _ B
    ∙ ap (λ l. b % 2 ^ 32 ∷ b / 2 ^ 32 ∷ l) (split_one 2 c _ C
    ∙ ap (λ l. c % 2 ^ 32 ∷ c / 2 ^ 32 ∷ l) (split_one 0 d 0 D)))

-- Lemma: eight 32-bit lanes read as four words are each pair of lanes joined into a word.
pub join_eight : (a b c d e f g h : ℕ)
    → a < 2 ^ 32 → b < 2 ^ 32 → c < 2 ^ 32 → d < 2 ^ 32 → e < 2 ^ 32 → f < 2 ^ 32 → g < 2 ^ 32 → h < 2 ^ 32
    → digits_l (2 ^ 64) 4 (number_l 256 (digits_l 256 32 (number_l (2 ^ 32) (a ∷ b ∷ c ∷ d ∷ e ∷ f ∷ g ∷ h ∷ []))))
    ≡ (a + 2 ^ 32 * b) ∷ (c + 2 ^ 32 * d) ∷ (e + 2 ^ 32 * f) ∷ (g + 2 ^ 32 * h) ∷ []
join_eight a b c d e f g h A B C D E F G H =
    ap (digits_l (2 ^ 64) 4) (number_of_digits 32 (number_l (2 ^ 32) (a ∷ b ∷ c ∷ d ∷ e ∷ f ∷ g ∷ h ∷ [])) (omega arith))
    ∙ join_one 3 a b _ A B
    ∙ ap (λ l. (a + 2 ^ 32 * b) ∷ l) (join_one 2 c d _ C D
    ∙ ap (λ l. (c + 2 ^ 32 * d) ∷ l) (join_one 1 e f _ E F
    ∙ ap (λ l. (e + 2 ^ 32 * f) ∷ l) (join_one 0 g h 0 G H)))
