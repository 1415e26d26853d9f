-- Lemmas on short inputs: a value determines the bytes, given the seed, and the seed, given the bytes.
use Rattle.std.proofs.Common.{◌≡◌, ℕ, zero, suc, ◌+◌, ◌-◌, ◌*◌, ◌/◌, ◌%◌, ◌^◌, ◌<◌, ◌≤◌, Bool, true, false, if◌then◌else◌, nat_lt, List, [], ◌∷◌, length, slice_index, bit_xor, sym, ap, refl, subst, inl, inr, ◌∙◌, arith, lit<, mod-lt, pow_pos}
use Rattle.twox_core.proofs.Prelude.{cases_lt, nat_tests, prime32_2, prime64_1, same_number_lists, swap_bytes, told_by_word_32, told_by_word_64, w32, w64, word_at-lt_32, word_at-lt_64, xor_lt}
use Rattle.twox_words.specs.Word.{IsBytes, word_at}
use Rattle.twox_words.proofs.OneToOne.{xor_cancel_left, xor_cancel_right, multiple_one_to_one, sum_one_to_one_64}
use Rattle.twox_core.specs.Secret.{default_secret}
use Rattle.twox_core.specs.Steps.{word64, avalanche}
use Rattle.twox_core.specs.Short.{pair32, pair64, value64_0, low_0, combined_bytes, low_1_to_3, strong, mixed_seed, first32, last32, value64_4_to_8, product_4_to_8, low_4_to_8, high_4_to_8, first64, last64, first_9_to_16, second_9_to_16, high_word_9_to_16, low_word_9_to_16, both_words_9_to_16, product_9_to_16}
use Rattle.twox_core.proofs.StepLaws.{avalanche_one_to_one, avalanche_xxh64_one_to_one, strong_one_to_one, mixed_seed_one_to_one, mixed_seed-lt, difference_one_to_one, four128_one_to_one, wide_one_to_one, second_word_one_to_one}

-- ---- the default secret is bytes

all_bytes : List ℕ → Bool
all_bytes [] = true
all_bytes (x ∷ l) = if nat_lt x 256 then all_bytes l else false

both_true : (b c : Bool) → (if b then c else false) ≡ true → (b ≡ true) × (c ≡ true)
both_true true c e = (refl, e)
both_true false c e = grind (arith, e)

bytes_from : (l : List ℕ) → all_bytes l ≡ true → IsBytes l
unfolding all_bytes
bytes_from [] e k = lit< tt
bytes_from (x ∷ l) e zero = let test = (both_true (nat_lt x 256) (all_bytes l) e).0 in grind (arith, nat_tests, test)
bytes_from (x ∷ l) e (suc k) = bytes_from l (both_true (nat_lt x 256) (all_bytes l) e).1 k

pub default_secret-bytes : IsBytes default_secret
unfolding default_secret all_bytes
default_secret-bytes = bytes_from default_secret refl

-- ---- no bytes: the seed

two_words-lt : (seed : ℕ) (s : List ℕ) (i j : ℕ) → IsBytes s → seed < 2 ^ 64 → bit_xor (bit_xor seed (word64 s i)) (word64 s j) < 2 ^ 64
two_words-lt seed s i j p small = xor_lt 64 _ _ (xor_lt 64 _ _ small (word_at-lt_64 s i p)) (word_at-lt_64 s j p)

pub empty64_in_seed : (s : List ℕ) (x y : ℕ) → IsBytes s → x < 2 ^ 64 → y < 2 ^ 64 → value64_0 x s ≡ value64_0 y s → x ≡ y
unfolding value64_0
empty64_in_seed s x y p bx by e =
    xor_cancel_right _ x y (xor_cancel_right _ _ _ (avalanche_xxh64_one_to_one _ _ (two_words-lt x s 56 64 p bx) (two_words-lt y s 56 64 p by) e))

pub empty128_in_seed : (s : List ℕ) (x y : ℕ) → IsBytes s → x < 2 ^ 64 → y < 2 ^ 64 → low_0 x s ≡ low_0 y s → x ≡ y
unfolding low_0
empty128_in_seed s x y p bx by e =
    xor_cancel_right _ x y (xor_cancel_right _ _ _ (avalanche_xxh64_one_to_one _ _ (two_words-lt x s 64 72 p bx) (two_words-lt y s 64 72 p by) e))

-- ---- 1 to 3 bytes

combined_bytes-lt : (m : List ℕ) → IsBytes m → length m ≤ 3 → combined_bytes m < 2 ^ 32
unfolding combined_bytes
combined_bytes-lt m bytes high =
    let a = bytes (length m - 1) in
    let b = bytes 0 in
    let c = bytes (length m / 2) in omega arith

-- Lemma: lists that agree at offsets 0, len / 2 and len - 1 agree at each offset below len, for len up to 3.
each_of : (m n : List ℕ) (len k : ℕ) → len ≤ 3 → k < len → slice_index m 0 ≡ slice_index n 0
    → slice_index m (len / 2) ≡ slice_index n (len / 2) → slice_index m (len - 1) ≡ slice_index n (len - 1) → slice_index m k ≡ slice_index n k
each_of m n zero k high h a b c = absurd (omega arith)
each_of m n (suc zero) zero high h a b c = a
each_of m n (suc zero) (suc k) high h a b c = absurd (omega arith)
each_of m n (suc (suc zero)) zero high h a b c = a
each_of m n (suc (suc zero)) (suc zero) high h a b c = b
each_of m n (suc (suc zero)) (suc (suc k)) high h a b c = absurd (omega arith)
each_of m n (suc (suc (suc zero))) zero high h a b c = a
each_of m n (suc (suc (suc zero))) (suc zero) high h a b c = b
each_of m n (suc (suc (suc zero))) (suc (suc zero)) high h a b c = c
each_of m n (suc (suc (suc zero))) (suc (suc (suc k))) high h a b c = absurd (omega arith)
each_of m n (suc (suc (suc (suc len)))) k high h a b c = absurd (omega arith)

-- Lemma: combined_bytes determines the length and each byte of up to 3 bytes.
combined_one_to_one : (m n : List ℕ) → IsBytes m → IsBytes n → length m ≤ 3 → length n ≤ 3 → combined_bytes m ≡ combined_bytes n → m ≡ n
unfolding combined_bytes
combined_one_to_one m n p q hm hn e =
    let a = p (length m - 1) in
    let b = p 0 in
    let c = p (length m / 2) in
    let d = q (length n - 1) in
    let f = q 0 in
    let g = q (length n / 2) in
    let len : length m ≡ length n = omega arith in
    let first : slice_index m 0 ≡ slice_index n 0 = omega arith in
    let middle : slice_index m (length m / 2) ≡ slice_index n (length n / 2) = omega arith in
    let last : slice_index m (length m - 1) ≡ slice_index n (length n - 1) = omega arith in
    let same_middle : slice_index m (length m / 2) ≡ slice_index n (length m / 2) = middle ∙ ap (λ (k : ℕ). slice_index n (k / 2)) (sym len) in
    let same_last : slice_index m (length m - 1) ≡ slice_index n (length m - 1) = last ∙ ap (λ (k : ℕ). slice_index n (k - 1)) (sym len) in
    same_number_lists m n len (λ k h. each_of m n (length m) k hm h first same_middle same_last)

-- Lemma: low_1_to_3 determines the xor of c and the sum of the seed and the secret's pair32.
tiny_inside : (s : List ℕ) (x y c d : ℕ) → c < 2 ^ 32 → d < 2 ^ 32 → low_1_to_3 x s c ≡ low_1_to_3 y s d
    → bit_xor ((pair32 s 0 + x) % 2 ^ 64) c ≡ bit_xor ((pair32 s 0 + y) % 2 ^ 64) d
unfolding low_1_to_3
tiny_inside s x y c d a b e =
    avalanche_xxh64_one_to_one _ _ (xor_lt 64 _ c (mod-lt _ (pow_pos 64)) (omega arith)) (xor_lt 64 _ d (mod-lt _ (pow_pos 64)) (omega arith)) e

pub tiny_one_to_one : (seed : ℕ) (s m n : List ℕ) → IsBytes m → IsBytes n → length m ≤ 3 → length n ≤ 3
    → low_1_to_3 seed s (combined_bytes m) ≡ low_1_to_3 seed s (combined_bytes n) → m ≡ n
tiny_one_to_one seed s m n p q hm hn e =
    combined_one_to_one m n p q hm hn (xor_cancel_left _ _ _ (tiny_inside s seed seed (combined_bytes m) (combined_bytes n) (combined_bytes-lt m p hm) (combined_bytes-lt n q hn) e))

pub tiny_in_seed : (s m : List ℕ) (x y : ℕ) → IsBytes m → length m ≤ 3 → x < 2 ^ 64 → y < 2 ^ 64 → low_1_to_3 x s (combined_bytes m) ≡ low_1_to_3 y s (combined_bytes m) → x ≡ y
tiny_in_seed s m x y p hm bx by e =
    let small = combined_bytes-lt m p hm in
    let sums = xor_cancel_right (combined_bytes m) _ _ (tiny_inside s x y (combined_bytes m) (combined_bytes m) small small e) in
    omega (arith, sums)

-- ---- lists of the same length, from w to 2 * w, that agree on their first w and last w bytes

same_ends : (w : ℕ) (m n : List ℕ) → length m ≡ length n → w ≤ length m → length m ≤ w + w
    → ((k : ℕ) → k < w → slice_index m (0 + k) ≡ slice_index n (0 + k))
    → ((k : ℕ) → k < w → slice_index m (length m - w + k) ≡ slice_index n (length n - w + k)) → m ≡ n
same_ends w m n len low high front back =
    same_number_lists m n len (λ k h. elim (cases_lt k w) [
      | inl a ↦ let z : 0 + k ≡ k = omega arith in subst (λ (x : ℕ). slice_index m x ≡ slice_index n x) z (front k a)
      | inr b ↦
          let z : length m - w + (k - (length m - w)) ≡ k = omega arith in
          let y : length n - w + (k - (length m - w)) ≡ k = omega arith in
          ap (slice_index m) (sym z) ∙ back (k - (length m - w)) (omega arith) ∙ ap (slice_index n) y
    ])

-- ---- 4 to 8 bytes

-- Lemma: two 32-bit words joined into one number are below 2 ^ 64.
four_words-lt : (m : List ℕ) (i j : ℕ) → IsBytes m → word_at w32 m i + word_at w32 m j * 2 ^ 32 < 2 ^ 64
four_words-lt m i j p =
    let a = word_at-lt_32 m i p in
    let b = word_at-lt_32 m j p in omega arith

same_halves : (a b c d : ℕ) → a < 2 ^ 32 → c < 2 ^ 32 → a + b * 2 ^ 32 ≡ c + d * 2 ^ 32 → (a ≡ c) × (b ≡ d)
same_halves a b c d small small' e = (omega arith, omega arith)

-- Lemma: the first and the last 32-bit word determine 4 to 8 bytes of a known length.
four_bytes : (m n : List ℕ) → IsBytes m → IsBytes n → length m ≡ length n → 4 ≤ length m → length m ≤ 8 → first32 m ≡ first32 n → last32 m ≡ last32 n → m ≡ n
four_bytes m n p q len low high first last =
    same_ends 4 m n len low high (told_by_word_32 m n 0 0 p q (omega arith) (omega arith) first)
    (told_by_word_32 m n (length m - 4) (length n - 4) p q (omega arith) (omega arith) last)

pub four64_one_to_one : (seed : ℕ) (s m n : List ℕ) → IsBytes m → IsBytes n → length m ≡ length n → 4 ≤ length m → length m ≤ 8
    → value64_4_to_8 seed s m ≡ value64_4_to_8 seed s n → m ≡ n
unfolding value64_4_to_8
four64_one_to_one seed s m n p q len low high e =
    let a = (pair64 s 8 + (2 ^ 64 - mixed_seed seed)) % 2 ^ 64 in
    let ab : a < 2 ^ 64 = mod-lt _ (pow_pos 64) in
    let inside = strong_one_to_one (length m) high _ _ (xor_lt 64 a _ ab (four_words-lt m (length m - 4) 0 p)) (xor_lt 64 a _ ab (four_words-lt n (length n - 4) 0 q))
    (e ∙ ap (λ (k : ℕ). strong k (bit_xor a (last32 n + first32 n * 2 ^ 32))) (sym len)) in
    let words = same_halves (last32 m) (first32 m) (last32 n) (first32 n) (word_at-lt_32 m (length m - 4) p) (word_at-lt_32 n (length n - 4) q) (xor_cancel_left a _ _ inside) in
    four_bytes m n p q len low high words.1 words.0

pub four64_in_seed : (s m : List ℕ) (x y : ℕ) → IsBytes m → length m ≤ 8 → x < 2 ^ 64 → y < 2 ^ 64 → value64_4_to_8 x s m ≡ value64_4_to_8 y s m → x ≡ y
unfolding value64_4_to_8
four64_in_seed s m x y p high bx by e =
    let words = four_words-lt m (length m - 4) 0 p in
    let inside = strong_one_to_one (length m) high _ _ (xor_lt 64 _ _ (mod-lt _ (pow_pos 64)) words) (xor_lt 64 _ _ (mod-lt _ (pow_pos 64)) words) e in
    mixed_seed_one_to_one x y bx by (difference_one_to_one (pair64 s 8) (mixed_seed x) (mixed_seed y) (mixed_seed-lt x bx) (mixed_seed-lt y by)
    (xor_cancel_right (last32 m + first32 m * 2 ^ 32) _ _ inside))

-- The factor for length n, which is odd at each length from 4 to 8.
four_factor : ℕ → ℕ
four_factor n = (prime64_1 + n * 4) % 2 ^ 64

factor_back : (n : ℕ) → 4 ≤ n → n ≤ 8 → (q : ℕ) × (four_factor n * q % 2 ^ 64 ≡ 1)
unfolding four_factor
factor_back (suc (suc (suc (suc zero)))) a b = (0xc58fc94211b05527, refl)
factor_back (suc (suc (suc (suc (suc zero))))) a b = (0xf3655c2b3b120b93, refl)
factor_back (suc (suc (suc (suc (suc (suc zero)))))) a b = (0x4a353fc06e6cd15f, refl)
factor_back (suc (suc (suc (suc (suc (suc (suc zero))))))) a b = (0x72a86f8ff240390b, refl)
factor_back (suc (suc (suc (suc (suc (suc (suc (suc zero)))))))) a b = (0x6261c8662f213d17, refl)
factor_back (suc (suc (suc (suc (suc (suc (suc (suc (suc n))))))))) a b = absurd (omega arith)
factor_back zero a b = absurd (omega arith)
factor_back (suc zero) a b = absurd (omega arith)
factor_back (suc (suc zero)) a b = absurd (omega arith)
factor_back (suc (suc (suc zero))) a b = absurd (omega arith)

-- The number that is multiplied by the factor.
four_inside : ℕ → List ℕ → List ℕ → ℕ
four_inside seed s m = bit_xor ((pair64 s 16 + mixed_seed seed) % 2 ^ 64) (first32 m + last32 m * 2 ^ 32)

four_product_told : (s m n : List ℕ) (x y : ℕ) → IsBytes m → IsBytes n → length m ≡ length n → 4 ≤ length m → length m ≤ 8
    → low_4_to_8 (product_4_to_8 x s m) ≡ low_4_to_8 (product_4_to_8 y s n)
    → high_4_to_8 (product_4_to_8 x s m) ≡ high_4_to_8 (product_4_to_8 y s n) → four_inside x s m ≡ four_inside y s n
unfolding product_4_to_8 four_inside four_factor
four_product_told s m n x y p q len low high e f =
    let odd = factor_back (length m) low high in
    let b = four_inside y s n in
    four128_one_to_one (four_factor (length m)) odd.0 odd.1 _ b (xor_lt 64 _ _ (mod-lt _ (pow_pos 64)) (four_words-lt m 0 (length m - 4) p))
    (xor_lt 64 _ _ (mod-lt _ (pow_pos 64)) (four_words-lt n 0 (length n - 4) q))
    (e ∙ ap (λ (k : ℕ). low_4_to_8 (b * four_factor k)) (sym len)) (f ∙ ap (λ (k : ℕ). high_4_to_8 (b * four_factor k)) (sym len))

pub four128_told : (seed : ℕ) (s m n : List ℕ) → IsBytes m → IsBytes n → length m ≡ length n → 4 ≤ length m → length m ≤ 8
    → low_4_to_8 (product_4_to_8 seed s m) ≡ low_4_to_8 (product_4_to_8 seed s n)
    → high_4_to_8 (product_4_to_8 seed s m) ≡ high_4_to_8 (product_4_to_8 seed s n) → m ≡ n
unfolding four_inside
four128_told seed s m n p q len low high e f =
    let inside = xor_cancel_left _ _ _ (four_product_told s m n seed seed p q len low high e f) in
    let words = same_halves (first32 m) (last32 m) (first32 n) (last32 n) (word_at-lt_32 m 0 p) (word_at-lt_32 n 0 q) inside in
    four_bytes m n p q len low high words.0 words.1

pub four128_in_seed : (s m : List ℕ) (x y : ℕ) → IsBytes m → 4 ≤ length m → length m ≤ 8 → x < 2 ^ 64 → y < 2 ^ 64
    → low_4_to_8 (product_4_to_8 x s m) ≡ low_4_to_8 (product_4_to_8 y s m)
    → high_4_to_8 (product_4_to_8 x s m) ≡ high_4_to_8 (product_4_to_8 y s m) → x ≡ y
unfolding four_inside
four128_in_seed s m x y p low high bx by e f =
    let sums : (pair64 s 16 + mixed_seed x) % 2 ^ 64 ≡ (pair64 s 16 + mixed_seed y) % 2 ^ 64 =
    xor_cancel_right (first32 m + last32 m * 2 ^ 32) _ _ (four_product_told s m m x y p p refl low high e f) in
    let small = mixed_seed-lt x bx in
    let small' = mixed_seed-lt y by in
    mixed_seed_one_to_one x y bx by (omega (arith, sums))

-- ---- 9 to 16 bytes at 128 bits

swap-lt : (x : ℕ) → swap_bytes w64 x < 2 ^ 64
swap-lt x = omega arith

-- Lemma: h * 2 ^ 64 + l determines h and l if l is below 2 ^ 64.
same_halves_64 : (h l k r : ℕ) → l < 2 ^ 64 → r < 2 ^ 64 → h * 2 ^ 64 + l ≡ k * 2 ^ 64 + r → (h ≡ k) × (l ≡ r)
same_halves_64 h l k r a b e = (omega arith, omega arith)

second_word : (c v w : ℕ) → v < 2 ^ 64 → w < 2 ^ 64 → high_word_9_to_16 c v ≡ high_word_9_to_16 c w → v ≡ w
unfolding high_word_9_to_16
second_word c v w a b e =
    let vh = v / 2 ^ 32 * 2 ^ 32 in
    let vl = v % 2 ^ 32 * prime32_2 in
    let wh = w / 2 ^ 32 * 2 ^ 32 in
    let wl = w % 2 ^ 32 * prime32_2 in
    let sums : (vh + vl) % 2 ^ 64 ≡ (wh + wl) % 2 ^ 64 = omega arith in
    second_word_one_to_one v w a b sums

high_word_9_to_16-lt : (c v : ℕ) → high_word_9_to_16 c v < 2 ^ 64
unfolding high_word_9_to_16
high_word_9_to_16-lt c v = mod-lt _ (pow_pos 64)

low_word_9_to_16-lt : (c n : ℕ) → low_word_9_to_16 c n < 2 ^ 64
unfolding low_word_9_to_16
low_word_9_to_16-lt c n = mod-lt _ (pow_pos 64)

-- Lemma: both_words_9_to_16 determines both of its input words.
both_words : (x y v w n : ℕ) → x < 2 ^ 64 → y < 2 ^ 64 → v < 2 ^ 64 → w < 2 ^ 64
    → both_words_9_to_16 (x * prime64_1) v n ≡ both_words_9_to_16 (y * prime64_1) w n → (x ≡ y) × (v ≡ w)
unfolding both_words_9_to_16 low_word_9_to_16
both_words x y v w n bx by bv bw e =
    let hx = high_word_9_to_16 (x * prime64_1) v in
    let hy = high_word_9_to_16 (y * prime64_1) w in
    let lx = low_word_9_to_16 (x * prime64_1) n in
    let ly = low_word_9_to_16 (y * prime64_1) n in
    let halves = same_halves_64 hx (bit_xor lx (swap_bytes w64 hx)) hy (bit_xor ly (swap_bytes w64 hy))
    (xor_lt 64 lx _ (low_word_9_to_16-lt (x * prime64_1) n) (swap-lt hx)) (xor_lt 64 ly _ (low_word_9_to_16-lt (y * prime64_1) n) (swap-lt hy)) e in
    let lows : lx ≡ ly = xor_cancel_right (swap_bytes w64 hy) lx ly (ap (λ (z : ℕ). bit_xor lx (swap_bytes w64 z)) (sym halves.0) ∙ halves.1) in
    let products : x * prime64_1 % 2 ^ 64 ≡ y * prime64_1 % 2 ^ 64 =
    sum_one_to_one_64 ((n - 1) * 2 ^ 54) _ _ (mod-lt (x * prime64_1) (pow_pos 64)) (mod-lt (y * prime64_1) (pow_pos 64)) lows in
    let firsts : x ≡ y = multiple_one_to_one prime64_1 0x887493432badb37 (2 ^ 64) refl x y bx by products in
    let highs : high_word_9_to_16 (y * prime64_1) v ≡ hy = ap (λ (z : ℕ). high_word_9_to_16 (z * prime64_1) v) (sym firsts) ∙ halves.0 in
    (firsts, second_word (y * prime64_1) v w bv bw highs)

first_9_to_16-lt : (seed : ℕ) (s m : List ℕ) → IsBytes m → first_9_to_16 seed s m < 2 ^ 64
unfolding first_9_to_16
first_9_to_16-lt seed s m p =
    xor_lt 64 _ _ (xor_lt 64 _ _ (mod-lt _ (pow_pos 64)) (word_at-lt_64 m 0 p)) (word_at-lt_64 m (length m - 8) p)

second_9_to_16-lt : (seed : ℕ) (s m : List ℕ) → IsBytes m → second_9_to_16 seed s m < 2 ^ 64
unfolding second_9_to_16
second_9_to_16-lt seed s m p = xor_lt 64 _ _ (mod-lt _ (pow_pos 64)) (word_at-lt_64 m (length m - 8) p)

both_words_9_to_16-lt : (p v n : ℕ) → both_words_9_to_16 p v n < 2 ^ 128
unfolding both_words_9_to_16
both_words_9_to_16-lt p v n =
    let h = high_word_9_to_16-lt p v in
    let l = xor_lt 64 (low_word_9_to_16 p n) (swap_bytes w64 (high_word_9_to_16 p v)) (low_word_9_to_16-lt p n) (swap-lt (high_word_9_to_16 p v)) in
    omega arith

-- Lemma: the avalanches of both halves determine the 128-bit product.
product_back : (z y : ℕ) → z < 2 ^ 128 → y < 2 ^ 128 → avalanche (z % 2 ^ 64) ≡ avalanche (y % 2 ^ 64) → avalanche (z / 2 ^ 64) ≡ avalanche (y / 2 ^ 64) → z ≡ y
product_back z y a b low high =
    let lows : z % 2 ^ 64 ≡ y % 2 ^ 64 = avalanche_one_to_one _ _ (mod-lt z (pow_pos 64)) (mod-lt y (pow_pos 64)) low in
    let za : z / 2 ^ 64 < 2 ^ 64 = omega arith in
    let ya : y / 2 ^ 64 < 2 ^ 64 = omega arith in
    let highs : z / 2 ^ 64 ≡ y / 2 ^ 64 = avalanche_one_to_one _ _ za ya high in
    omega arith

nine_told : (s m n : List ℕ) (x y : ℕ) → IsBytes m → IsBytes n → length m ≡ length n
    → avalanche (product_9_to_16 x s m % 2 ^ 64) ≡ avalanche (product_9_to_16 y s n % 2 ^ 64)
    → avalanche (product_9_to_16 x s m / 2 ^ 64) ≡ avalanche (product_9_to_16 y s n / 2 ^ 64)
    → (first_9_to_16 x s m ≡ first_9_to_16 y s n) × (second_9_to_16 x s m ≡ second_9_to_16 y s n)
unfolding product_9_to_16
nine_told s m n x y p q len e f =
    let products = product_back (product_9_to_16 x s m) (product_9_to_16 y s n) (mod-lt _ (pow_pos 128)) (mod-lt _ (pow_pos 128)) e f in
    let both = wide_one_to_one _ _ (both_words_9_to_16-lt (first_9_to_16 x s m * prime64_1) (second_9_to_16 x s m) (length m))
    (both_words_9_to_16-lt (first_9_to_16 y s n * prime64_1) (second_9_to_16 y s n) (length n)) products in
    both_words (first_9_to_16 x s m) (first_9_to_16 y s n) (second_9_to_16 x s m) (second_9_to_16 y s n) (length m)
    (first_9_to_16-lt x s m p) (first_9_to_16-lt y s n q) (second_9_to_16-lt x s m p) (second_9_to_16-lt y s n q)
    (both ∙ ap (both_words_9_to_16 (first_9_to_16 y s n * prime64_1) (second_9_to_16 y s n)) (sym len))

pub nine128_told : (seed : ℕ) (s m n : List ℕ) → IsBytes m → IsBytes n → length m ≡ length n → 9 ≤ length m → length m ≤ 16
    → avalanche (product_9_to_16 seed s m % 2 ^ 64) ≡ avalanche (product_9_to_16 seed s n % 2 ^ 64)
    → avalanche (product_9_to_16 seed s m / 2 ^ 64) ≡ avalanche (product_9_to_16 seed s n / 2 ^ 64) → m ≡ n
unfolding first_9_to_16 second_9_to_16
nine128_told seed s m n p q len low high e f =
    let words = nine_told s m n seed seed p q len e f in
    let key = (pair64 s 32 + (2 ^ 64 - seed)) % 2 ^ 64 in
    let last : last64 m ≡ last64 n = xor_cancel_left ((pair64 s 48 + seed) % 2 ^ 64) (last64 m) (last64 n) words.1 in
    let first : first64 m ≡ first64 n =
    xor_cancel_left key (first64 m) (first64 n) (xor_cancel_right (last64 n) _ _ (ap (bit_xor (bit_xor key (first64 m))) (sym last) ∙ words.0)) in
    same_ends 8 m n len (omega arith) high (told_by_word_64 m n 0 0 p q (omega arith) (omega arith) first)
    (told_by_word_64 m n (length m - 8) (length n - 8) p q (omega arith) (omega arith) last)

pub nine128_in_seed : (s m : List ℕ) (x y : ℕ) → IsBytes m → x < 2 ^ 64 → y < 2 ^ 64
    → avalanche (product_9_to_16 x s m % 2 ^ 64) ≡ avalanche (product_9_to_16 y s m % 2 ^ 64)
    → avalanche (product_9_to_16 x s m / 2 ^ 64) ≡ avalanche (product_9_to_16 y s m / 2 ^ 64) → x ≡ y
unfolding first_9_to_16
nine128_in_seed s m x y p bx by e f =
    let words = nine_told s m m x y p p refl e f in
    difference_one_to_one (pair64 s 32) x y bx by (xor_cancel_right (first64 m) _ _ (xor_cancel_right (last64 m) _ _ words.0))
