-- Laws of XXH32: a changed unit changes the value at any length, and a changed seed does under 16 bytes.
use Rattle.std.proofs.Common.{◌≡◌, ◌≢◌, ℕ, zero, suc, ◌+◌, ◌-◌, ◌*◌, ◌/◌, ◌%◌, ◌^◌, ◌<◌, ◌≤◌, List, length, nat_lt, true, false, slice_index, inl, inr, refl, sym, ap, subst, ◌∙◌, arith, lit<, lit≤, mod-lt, pow_pos}
use Rattle.twox_plain.proofs.Prelude.{DiffersWithin, IsUnit32, cases_lt, left-lt, nat_tests, rotate_left, told_by_word_32, w32, word_at-lt_32}
use Rattle.twox_words.specs.Word.{IsBytes, word_at, counted}
use Rattle.twox_plain.specs.Units.{after_units}
use Rattle.twox_plain.specs.Xxh32.{p1, p2, p3, p4, p5, initial_accumulators, round, accumulator, convergence, start, take_word, take_byte, after_words, after_tail, avalanche, xxh32}
use Rattle.twox_words.proofs.OneToOne.{IsOneToOne, multiple_one_to_one, sum_one_to_one_32, left_one_to_one, turned_multiple_told, avalanche_told}
use Rattle.twox_plain.proofs.ByteLaws.{bytes_told, byte_noticed}
use Rattle.twox_plain.proofs.UnitFacts.{after_units_same}
use Rattle.twox_plain.proofs.UnitLaws.{IsTelling, after_units-lt, start_told, unit_told}
use Rattle.twox_plain.proofs.ChangedUnitFacts.{differ, word_outside}

-- ---- the steps

-- Adds unit * p, rotates by k and multiplies by q, as rounds and tail steps do.
abbrev add_step : ℕ → ℕ → ℕ → ℕ → ℕ → ℕ
add_step k p q x unit = rotate_left w32 ((x + unit * p % 2 ^ 32) % 2 ^ 32) k * q % 2 ^ 32

add_step_tells : (units k p p' q q' : ℕ) → units ≤ 2 ^ 32 → 0 < k → k < 32 → p * p' % 2 ^ 32 ≡ 1 → q * q' % 2 ^ 32 ≡ 1 → IsTelling (2 ^ 32) units (add_step k p q)
add_step_tells units k p p' q q' few low high odd odd' = record {
  closed = λ x u. mod-lt _ (pow_pos 32);
  in_state = λ u small x y a b e. sum_one_to_one_32 (u * p % 2 ^ 32) x y a b (turned_multiple_told w32 k q q' low high odd' _ _ (mod-lt _ (pow_pos 32)) (mod-lt _ (pow_pos 32)) e);
  in_unit = λ x small u v a b e.
      let c = u * p % 2 ^ 32 in
      let d = v * p % 2 ^ 32 in
      let cb : c < 2 ^ 32 = mod-lt (u * p) (pow_pos 32) in
      let db : d < 2 ^ 32 = mod-lt (v * p) (pow_pos 32) in
      let sums : (x + c) % 2 ^ 32 ≡ (x + d) % 2 ^ 32 = turned_multiple_told w32 k q q' low high odd' _ _ (mod-lt _ (pow_pos 32)) (mod-lt _ (pow_pos 32)) e in
      let products : c ≡ d = omega arith in
      multiple_one_to_one p p' (2 ^ 32) odd u v (omega arith) (omega arith) products;
}

round_tells : IsTelling (2 ^ 32) (2 ^ 32) round
round_tells = add_step_tells (2 ^ 32) 13 p2 0xb6c92f47 p1 0xe8b2f51 (lit≤ tt) (lit< tt) (lit< tt) refl refl

take_word_tells : IsTelling (2 ^ 32) (2 ^ 32) take_word
take_word_tells = add_step_tells (2 ^ 32) 17 p3 0xa89ed915 p4 0xa0fe3bcf (lit≤ tt) (lit< tt) (lit< tt) refl refl

take_byte_tells : IsTelling (2 ^ 32) (2 ^ 8) take_byte
take_byte_tells = add_step_tells (2 ^ 8) 11 p5 0xae398151 p1 0xe8b2f51 (lit≤ tt) (lit< tt) (lit< tt) refl refl

avalanche_32_told : IsOneToOne (2 ^ 32) avalanche
avalanche_32_told = avalanche_told 32 15 13 16 p2 0xb6c92f47 p3 0xa89ed915 (lit≤ tt) (lit≤ tt) (lit≤ tt) refl refl

-- ---- ranges

start-lt : (seed : ℕ) (m : List ℕ) → start seed m < 2 ^ 32
unfolding start
start-lt seed m = mod-lt _ (pow_pos 32)

after_words-lt : (m : List ℕ) (i x n : ℕ) → x < 2 ^ 32 → after_words m i x n < 2 ^ 32
unfolding after_words
after_words-lt m i x n h = after_units-lt _ _ take_word take_word_tells (λ u. word_at w32 m (i + u * 4)) x (n / 4) h

after_tail-lt : (m : List ℕ) (i x n : ℕ) → x < 2 ^ 32 → after_tail m i x n < 2 ^ 32
unfolding after_tail
after_tail-lt m i x n h = after_units-lt _ _ take_byte take_byte_tells (λ u. slice_index m (i + n / 4 * 4 + u)) (after_words m i x n) (n % 4) (after_words-lt m i x n h)

initial-lt : (seed j : ℕ) → seed < 2 ^ 32 → slice_index (initial_accumulators seed) j < 2 ^ 32
initial-lt seed zero h = mod-lt _ (pow_pos 32)
initial-lt seed (suc zero) h = mod-lt _ (pow_pos 32)
initial-lt seed (suc (suc zero)) h = h
initial-lt seed (suc (suc (suc zero))) h = mod-lt _ (pow_pos 32)
initial-lt seed (suc (suc (suc (suc j)))) h = lit< tt

accumulator-lt : (seed : ℕ) (m : List ℕ) (j k : ℕ) → seed < 2 ^ 32 → accumulator seed m j k < 2 ^ 32
unfolding accumulator
accumulator-lt seed m j k h = after_units-lt _ _ round round_tells (λ i. word_at w32 m (i * 16 + j * 4)) (slice_index (initial_accumulators seed) j) k (initial-lt seed j h)

-- ---- equal parts of two lists

accumulator_same : (seed : ℕ) (m n : List ℕ) (j k : ℕ) → ((i : ℕ) → i < k → word_at w32 m (i * 16 + j * 4) ≡ word_at w32 n (i * 16 + j * 4)) → accumulator seed m j k ≡ accumulator seed n j k
unfolding accumulator
accumulator_same seed m n j k same = after_units_same round _ _ (slice_index (initial_accumulators seed) j) k same

start_same : (seed : ℕ) (m n : List ℕ) → length n ≡ length m → ((i : ℕ) → i % 4 ≡ 0 → i + 4 ≤ length m / 16 * 16 → word_at w32 m i ≡ word_at w32 n i) → start seed m ≡ start seed n
unfolding start
start_same seed m n len same =
    let k = length m / 16 in
    let one = λ (j : ℕ) (low : j < 4). accumulator_same seed m n j k (λ i h. same (i * 16 + j * 4) (omega arith) (omega arith)) in
    rw (len, one 0 (lit< tt), one 1 (lit< tt), one 2 (lit< tt), one 3 (lit< tt)) refl

after_words_same : (m n : List ℕ) (i x t : ℕ) → ((u : ℕ) → u < t / 4 → word_at w32 m (i + u * 4) ≡ word_at w32 n (i + u * 4)) → after_words m i x t ≡ after_words n i x t
unfolding after_words
after_words_same m n i x t same = after_units_same take_word _ _ x (t / 4) same

-- ---- consequences of equal values

-- Lemma: equal values of lists of the same length are equal before the avalanche.
tail_told : (m n : List ℕ) (seed other : ℕ) → length n ≡ length m → xxh32 seed m ≡ xxh32 other n
    → let i = length m / 16 * 16 in
    after_tail m i (start seed m) (length m % 16) ≡ after_tail n i (start other n) (length m % 16)
unfolding xxh32
tail_told m n seed other len e =
    avalanche_32_told _ _ (after_tail-lt m _ _ _ (start-lt seed m)) (after_tail-lt n _ _ _ (start-lt other n)) (rw len at e)

-- Lemma: values that are equal after the same bytes are equal before them.
words_told : (m n : List ℕ) (i x y t : ℕ) → IsBytes m → x < 2 ^ 32 → y < 2 ^ 32 → ((u : ℕ) → u < t % 4 → slice_index n (i + t / 4 * 4 + u) ≡ slice_index m (i + t / 4 * 4 + u))
    → after_tail m i x t ≡ after_tail n i y t → after_words m i x t ≡ after_words n i y t
unfolding after_tail
words_told m n i x y t p bx by same e =
    bytes_told (2 ^ 32) take_byte take_byte_tells m n (i + t / 4 * 4) _ _ (t % 4) p (after_words-lt m i x t bx) (after_words-lt n i y t by) same e

-- Lemma: values that are equal after the same words are equal before them.
begin_told : (m n : List ℕ) (i x y t : ℕ) → IsBytes m → x < 2 ^ 32 → y < 2 ^ 32 → ((u : ℕ) → u < t / 4 → word_at w32 n (i + u * 4) ≡ word_at w32 m (i + u * 4))
    → after_words m i x t ≡ after_words n i y t → x ≡ y
unfolding after_words
begin_told m n i x y t p bx by same e =
    start_told _ _ take_word take_word_tells (λ u. word_at w32 m (i + u * 4)) x y (t / 4) (λ u low. word_at-lt_32 m (i + u * 4) p) bx by
    (e ∙ after_units_same take_word _ _ y (t / 4) same)

-- Lemma: the convergence determines accumulator j, given the other three.
convergence_told : (f g : ℕ → ℕ) (j : ℕ) → j < 4 → ((i : ℕ) → f i < 2 ^ 32) → ((i : ℕ) → g i < 2 ^ 32) → ((i : ℕ) → i < 4 → i ≢ j → f i ≡ g i)
    → convergence (f 0) (f 1) (f 2) (f 3) ≡ convergence (g 0) (g 1) (g 2) (g 3) → f j ≡ g j
convergence_told f g zero low bf bg same e =
    let b = left-lt w32 1 (f 0) (lit< tt) (lit< tt) (bf 0) in
    let b' = left-lt w32 1 (g 0) (lit< tt) (lit< tt) (bg 0) in
    left_one_to_one w32 1 (lit< tt) (lit< tt) (f 0) (g 0) (bf 0) (bg 0)
    (omega (arith, e, ap (λ x. rotate_left w32 x 7) (same 1 (lit< tt) (λ h. absurd (omega (arith, h)))), ap (λ x. rotate_left w32 x 12) (same 2 (lit< tt) (λ h. absurd (omega (arith, h)))), ap (λ x. rotate_left w32 x 18) (same 3 (lit< tt) (λ h. absurd (omega (arith, h))))))
convergence_told f g (suc zero) low bf bg same e =
    let b = left-lt w32 7 (f 1) (lit< tt) (lit< tt) (bf 1) in
    let b' = left-lt w32 7 (g 1) (lit< tt) (lit< tt) (bg 1) in
    left_one_to_one w32 7 (lit< tt) (lit< tt) (f 1) (g 1) (bf 1) (bg 1)
    (omega (arith, e, ap (λ x. rotate_left w32 x 1) (same 0 (lit< tt) (λ h. absurd (omega (arith, h)))), ap (λ x. rotate_left w32 x 12) (same 2 (lit< tt) (λ h. absurd (omega (arith, h)))), ap (λ x. rotate_left w32 x 18) (same 3 (lit< tt) (λ h. absurd (omega (arith, h))))))
convergence_told f g (suc (suc zero)) low bf bg same e =
    let b = left-lt w32 12 (f 2) (lit< tt) (lit< tt) (bf 2) in
    let b' = left-lt w32 12 (g 2) (lit< tt) (lit< tt) (bg 2) in
    left_one_to_one w32 12 (lit< tt) (lit< tt) (f 2) (g 2) (bf 2) (bg 2)
    (omega (arith, e, ap (λ x. rotate_left w32 x 1) (same 0 (lit< tt) (λ h. absurd (omega (arith, h)))), ap (λ x. rotate_left w32 x 7) (same 1 (lit< tt) (λ h. absurd (omega (arith, h)))), ap (λ x. rotate_left w32 x 18) (same 3 (lit< tt) (λ h. absurd (omega (arith, h))))))
convergence_told f g (suc (suc (suc zero))) low bf bg same e =
    let b = left-lt w32 18 (f 3) (lit< tt) (lit< tt) (bf 3) in
    let b' = left-lt w32 18 (g 3) (lit< tt) (lit< tt) (bg 3) in
    left_one_to_one w32 18 (lit< tt) (lit< tt) (f 3) (g 3) (bf 3) (bg 3)
    (omega (arith, e, ap (λ x. rotate_left w32 x 1) (same 0 (lit< tt) (λ h. absurd (omega (arith, h)))), ap (λ x. rotate_left w32 x 7) (same 1 (lit< tt) (λ h. absurd (omega (arith, h)))), ap (λ x. rotate_left w32 x 12) (same 2 (lit< tt) (λ h. absurd (omega (arith, h))))))
convergence_told f g (suc (suc (suc (suc j)))) low bf bg same e = absurd (omega arith)

-- Lemma: equal start values of lists of at least a stripe have equal convergences.
accumulators_told : (seed : ℕ) (m n : List ℕ) → length n ≡ length m → 16 ≤ length m → start seed m ≡ start seed n
    → let k = length m / 16 in
    convergence (accumulator seed m 0 k) (accumulator seed m 1 k) (accumulator seed m 2 k) (accumulator seed m 3 k) ≡ convergence (accumulator seed n 0 k) (accumulator seed n 1 k) (accumulator seed n 2 k) (accumulator seed n 3 k)
unfolding start
accumulators_told seed m n len long e =
    let test : nat_lt (length m) 16 ≡ false = grind (arith, nat_tests) in
    let e' = rw (len, test) at e in
    sum_one_to_one_32 (counted (length m) % 2 ^ 32) _ _ (mod-lt _ (pow_pos 32)) (mod-lt _ (pow_pos 32)) e'

-- ---- the laws

-- Lemma: a changed byte after the whole words changes the value.
byte_law : (seed : ℕ) (m n : List ℕ) (from : ℕ) → IsBytes m → IsBytes n → length m / 4 * 4 ≤ from → from < length m → DiffersWithin from 1 m n → xxh32 seed m ≢ xxh32 seed n
unfolding after_tail
byte_law seed m n from p q late within apart e =
    let i = length m / 16 * 16 in
    let t = length m % 16 in
    let begun : start seed m ≡ start seed n = start_same seed m n apart.lengths (λ k whole h. word_outside w32 m n from 1 k apart (omega arith) (inl (omega arith))) in
    let words : after_words m i (start seed m) t ≡ after_words n i (start seed n) t = after_words_same m n i (start seed m) t (λ k h. word_outside w32 m n from 1 (i + k * 4) apart (omega arith) (inl (omega arith))) ∙ ap (λ x. after_words n i x t) begun in
    byte_noticed (2 ^ 32) take_byte take_byte_tells m n (i + t / 4 * 4) _ _ (t % 4) from p q (after_words-lt m i _ t (start-lt seed m)) words (omega arith) (omega arith) apart
    (tail_told m n seed seed apart.lengths e)

-- Lemma: lists that differ within a word have different words at its offset.
word_differs : (m n : List ℕ) (from at : ℕ) → IsBytes m → IsBytes n → from + 4 ≤ length m → DiffersWithin from 4 m n → at ≡ from → word_at w32 m at ≡ word_at w32 n at → ⊥
word_differs m n from at p q fits apart place e =
    differ m n from 4 apart (told_by_word_32 m n from from p q fits (omega (arith, apart.lengths)) (subst (λ x. word_at w32 m x ≡ word_at w32 n x) place e))

-- Lemma: a changed word of the tail changes the value after the words of the tail.
tail_word_law : (seed : ℕ) (m n : List ℕ) (from : ℕ) → IsBytes m → IsBytes n → from % 4 ≡ 0 → length m / 16 * 16 ≤ from → from + 4 ≤ length m → DiffersWithin from 4 m n
    → after_words m (length m / 16 * 16) (start seed m) (length m % 16) ≢ after_words n (length m / 16 * 16) (start seed n) (length m % 16)
unfolding after_words
tail_word_law seed m n from p q whole late within apart e =
    let i = length m / 16 * 16 in
    let t = length m % 16 in
    let u = (from - i) / 4 in
    let begun : start seed m ≡ start seed n = start_same seed m n apart.lengths (λ k whole h. word_outside w32 m n from 4 k apart (omega arith) (inl (omega arith))) in
    let same : (k : ℕ) → k < t / 4 → k ≢ u → word_at w32 m (i + k * 4) ≡ word_at w32 n (i + k * 4) = λ k h away.
    word_outside w32 m n from 4 (i + k * 4) apart (omega arith) (elim (cases_lt k u) [ inl before ↦ inl (omega arith) | inr after ↦ inr (omega (arith, away)) ]) in
    word_differs m n from (i + u * 4) p q within apart (omega arith)
    (unit_told _ _ take_word take_word_tells (λ k. word_at w32 m (i + k * 4)) (λ k. word_at w32 n (i + k * 4)) u (start seed m) (t / 4) same
    (λ k h. word_at-lt_32 m (i + k * 4) p) (λ k h. word_at-lt_32 n (i + k * 4) q) (omega arith) (start-lt seed m)
    (e ∙ ap (λ x. after_units take_word (λ k. word_at w32 n (i + k * 4)) x (t / 4)) (sym begun)))

-- Lemma: a changed word of a stripe changes the start value.
stripe_word_law : (seed : ℕ) (m n : List ℕ) (from : ℕ) → seed < 2 ^ 32 → IsBytes m → IsBytes n → from % 4 ≡ 0 → from < length m / 16 * 16 → DiffersWithin from 4 m n → start seed m ≢ start seed n
unfolding accumulator
stripe_word_law seed m n from small p q whole early apart e =
    let K = length m / 16 in
    let u = from / 16 in
    let j = from % 16 / 4 in
    let others : (i : ℕ) → i < 4 → i ≢ j → accumulator seed m i K ≡ accumulator seed n i K = λ i low away. accumulator_same seed m n i K (λ k h.
    word_outside w32 m n from 4 (k * 16 + i * 4) apart (omega arith) (elim (cases_lt (k * 16 + i * 4) from) [ inl before ↦ inl (omega (arith, away)) | inr after ↦ inr (omega (arith, away)) ])) in
    let lanes : accumulator seed m j K ≡ accumulator seed n j K =
    convergence_told (λ i. accumulator seed m i K) (λ i. accumulator seed n i K) j (omega arith) (λ i. accumulator-lt seed m i K small) (λ i. accumulator-lt seed n i K small) others (accumulators_told seed m n apart.lengths (omega arith) e) in
    let same : (k : ℕ) → k < K → k ≢ u → word_at w32 m (k * 16 + j * 4) ≡ word_at w32 n (k * 16 + j * 4) = λ k h away.
    word_outside w32 m n from 4 (k * 16 + j * 4) apart (omega arith) (elim (cases_lt k u) [ inl before ↦ inl (omega arith) | inr after ↦ inr (omega (arith, away)) ]) in
    word_differs m n from (u * 16 + j * 4) p q (omega arith) apart (omega arith)
    (unit_told _ _ round round_tells (λ k. word_at w32 m (k * 16 + j * 4)) (λ k. word_at w32 n (k * 16 + j * 4)) u (slice_index (initial_accumulators seed) j) K same
    (λ k h. word_at-lt_32 m (k * 16 + j * 4) p) (λ k h. word_at-lt_32 n (k * 16 + j * 4) q) (omega arith) (initial-lt seed j small) lanes)

word_law : (seed : ℕ) (m n : List ℕ) (from : ℕ) → seed < 2 ^ 32 → IsBytes m → IsBytes n → from % 4 ≡ 0 → from + 4 ≤ length m → DiffersWithin from 4 m n → xxh32 seed m ≢ xxh32 seed n
word_law seed m n from small p q whole within apart e =
    let i = length m / 16 * 16 in
    let t = length m % 16 in
    let words = words_told m n i (start seed m) (start seed n) t p (start-lt seed m) (start-lt seed n) (λ u h. apart.outside (i + t / 4 * 4 + u) (inr (omega arith))) (tail_told m n seed seed apart.lengths e) in
    elim (cases_lt from i) [
      | inr late ↦ tail_word_law seed m n from p q whole late within apart words
      | inl early ↦ stripe_word_law seed m n from small p q whole early apart
          (begin_told m n i (start seed m) (start seed n) t p (start-lt seed m) (start-lt seed n)
          (λ u h. sym (word_outside w32 m n from 4 (i + u * 4) apart (omega arith) (inr (omega arith)))) words)
    ]

-- Lemma: a list that differs in one unit has another value.
pub unit_law_32 : (seed : ℕ) (m n : List ℕ) (from size : ℕ) → seed < 2 ^ 32 → IsBytes m → IsBytes n → IsUnit32 (length m) from size → DiffersWithin from size m n → xxh32 seed n ≢ xxh32 seed m
unit_law_32 seed m n from size small p q unit apart e = elim unit [
  | inl word ↦ word_law seed m n from small p q word.1 word.2 (subst (λ x. DiffersWithin from x m n) word.0 apart) (sym e)
  | inr byte ↦ byte_law seed m n from p q byte.1 byte.2 (subst (λ x. DiffersWithin from x m n) byte.0 apart) (sym e)
]

-- Lemma: the start value of less than 16 bytes is seed + p5 + length, modulo 2 ^ 32.
short_start : (seed : ℕ) (m : List ℕ) → length m < 16 → start seed m ≡ ((seed + p5) % 2 ^ 32 + counted (length m) % 2 ^ 32) % 2 ^ 32
unfolding start
short_start seed m short =
    let test : nat_lt (length m) 16 ≡ true = grind (arith, nat_tests) in
    rw test refl

pub seed_law_32 : (seed other : ℕ) (m : List ℕ) → seed < 2 ^ 32 → other < 2 ^ 32 → IsBytes m → length m < 16 → other ≢ seed → xxh32 other m ≢ xxh32 seed m
seed_law_32 seed other m small small' p short differs e =
    let i = length m / 16 * 16 in
    let t = length m % 16 in
    let words = words_told m m i (start other m) (start seed m) t p (start-lt other m) (start-lt seed m) (λ u h. refl) (tail_told m m other seed refl e) in
    let starts = begin_told m m i (start other m) (start seed m) t p (start-lt other m) (start-lt seed m) (λ u h. refl) words in
    let sums = sym (short_start other m short) ∙ starts ∙ short_start seed m short in
    differs (omega (arith, sums))
