-- Laws of XXH64: a changed unit of the tail changes the value, and a changed seed does under 32 bytes.
use Rattle.std.proofs.Common.{◌≡◌, ◌≢◌, ℕ, ◌+◌, ◌-◌, ◌*◌, ◌/◌, ◌%◌, ◌^◌, ◌<◌, ◌≤◌, List, length, nat_lt, true, slice_index, bit_xor, inl, inr, refl, sym, ap, subst, ◌∙◌, arith, lit<, lit≤, mod-lt, pow_pos}
use Rattle.twox_plain.proofs.Prelude.{DiffersWithin, IsTailUnit64, cases_lt, nat_tests, rotate_left, told_by_word_32, told_by_word_64, w32, w64, word_at-lt_32, word_at-lt_64, xor_lt}
use Rattle.twox_words.specs.Word.{IsBytes, word_at, counted}
use Rattle.twox_plain.specs.Units.{after_units}
use Rattle.twox_plain.specs.Xxh64.{p1, p2, p3, p4, p5, initial_accumulators, round, accumulator, start, take_eight, take_four, take_byte, after_eights, after_words, after_tail, avalanche, xxh64}
use Rattle.twox_words.proofs.OneToOne.{IsOneToOne, xor_cancel_left, xor_cancel_right, multiple_one_to_one, sum_one_to_one_64, turned_multiple_told, avalanche_told}
use Rattle.twox_plain.proofs.ByteLaws.{bytes_told, byte_noticed}
use Rattle.twox_plain.proofs.UnitFacts.{after_units_same}
use Rattle.twox_plain.proofs.UnitLaws.{IsTelling, after_units-lt, start_told, unit_told}
use Rattle.twox_plain.proofs.ChangedUnitFacts.{differ, word_outside}
use Rattle.twox_plain.proofs.Tail64.{after_words_short, after_words_long}

-- ---- the steps

-- Lemma: xor with g of the unit, a rotation by k and a product by p make a step one-to-one in state and unit.
xor_step_tells : (units : ℕ) (g : ℕ → ℕ) (k p q : ℕ) → ((u : ℕ) → g u < 2 ^ 64) → IsOneToOne units g → 0 < k → k < 64 → p * q % 2 ^ 64 ≡ 1
    → IsTelling (2 ^ 64) units (λ x u. rotate_left w64 (bit_xor x (g u)) k * p % 2 ^ 64)
xor_step_tells units g k p q below told low high odd = record {
  closed = λ x u. mod-lt _ (pow_pos 64);
  in_state = λ u small x y a b e. xor_cancel_right (g u) x y (turned_multiple_told w64 k p q low high odd _ _ (xor_lt 64 x (g u) a (below u)) (xor_lt 64 y (g u) b (below u)) e);
  in_unit = λ x small u v a b e. told u v a b (xor_cancel_left x (g u) (g v) (turned_multiple_told w64 k p q low high odd _ _ (xor_lt 64 x (g u) small (below u)) (xor_lt 64 x (g v) small (below v)) e));
}

-- Lemma: adding a constant keeps a step one-to-one in state and unit.
plus_tells : (units : ℕ) (step : ℕ → ℕ → ℕ) (c : ℕ) → IsTelling (2 ^ 64) units step → IsTelling (2 ^ 64) units (λ x u. (step x u + c) % 2 ^ 64)
plus_tells units step c tells = record {
  closed = λ x u. mod-lt _ (pow_pos 64);
  in_state = λ u small x y a b e. tells.in_state u small x y a b (sum_one_to_one_64 c _ _ (tells.closed x u) (tells.closed y u) e);
  in_unit = λ x small u v a b e. tells.in_unit x small u v a b (sum_one_to_one_64 c _ _ (tells.closed x u) (tells.closed x v) e);
}

round_told : IsOneToOne (2 ^ 64) (round 0)
round_told u v a b e =
    let below = λ (x : ℕ). mod-lt (x * p2) (pow_pos 64) in
    let bu = below u in
    let bv = below v in
    let products : u * p2 % 2 ^ 64 ≡ v * p2 % 2 ^ 64 = omega (arith, turned_multiple_told w64 31 p1 0x887493432badb37 (lit< tt) (lit< tt) refl _ _ (mod-lt _ (pow_pos 64)) (mod-lt _ (pow_pos 64)) e) in
    multiple_one_to_one p2 0xba79078168d4baf (2 ^ 64) refl u v a b products

-- Lemma: multiplying a unit by p, which has the inverse q, is one-to-one.
multiple_told : (units p q : ℕ) → units ≤ 2 ^ 64 → p * q % 2 ^ 64 ≡ 1 → IsOneToOne units (λ u. u * p % 2 ^ 64)
multiple_told units p q few odd u v a b e = multiple_one_to_one p q (2 ^ 64) odd u v (omega arith) (omega arith) e

take_eight_tells : IsTelling (2 ^ 64) (2 ^ 64) take_eight
take_eight_tells = plus_tells (2 ^ 64) _ p4 (xor_step_tells (2 ^ 64) (round 0) 27 p1 0x887493432badb37 (λ u. mod-lt _ (pow_pos 64)) round_told (lit< tt) (lit< tt) refl)

take_four_tells : IsTelling (2 ^ 64) (2 ^ 32) take_four
take_four_tells = plus_tells (2 ^ 32) _ p3 (xor_step_tells (2 ^ 32) (λ u. u * p1 % 2 ^ 64) 23 p2 0xba79078168d4baf (λ u. mod-lt _ (pow_pos 64)) (multiple_told (2 ^ 32) p1 0x887493432badb37 (lit≤ tt) refl) (lit< tt) (lit< tt) refl)

take_byte_tells : IsTelling (2 ^ 64) (2 ^ 8) take_byte
take_byte_tells = xor_step_tells (2 ^ 8) (λ u. u * p5 % 2 ^ 64) 11 p1 0x887493432badb37 (λ u. mod-lt _ (pow_pos 64)) (multiple_told (2 ^ 8) p5 0xc592c09fdfba7f0d (lit≤ tt) refl) (lit< tt) (lit< tt) refl

avalanche_64_told : IsOneToOne (2 ^ 64) avalanche
avalanche_64_told = avalanche_told 64 33 29 32 p2 0xba79078168d4baf p3 0xe9e9f4c41d6df849 (lit≤ tt) (lit≤ tt) (lit≤ tt) refl refl

-- ---- ranges

start-lt : (seed : ℕ) (m : List ℕ) → start seed m < 2 ^ 64
unfolding start
start-lt seed m = mod-lt _ (pow_pos 64)

after_eights-lt : (m : List ℕ) (i x n : ℕ) → x < 2 ^ 64 → after_eights m i x n < 2 ^ 64
unfolding after_eights
after_eights-lt m i x n h = after_units-lt _ _ take_eight take_eight_tells (λ u. word_at w64 m (i + u * 8)) x (n / 8) h

after_words-lt : (m : List ℕ) (i x n : ℕ) → x < 2 ^ 64 → after_words m i x n < 2 ^ 64
after_words-lt m i x n h = elim (cases_lt (n % 8) 4) [
  | inl short ↦ subst (λ z. z < 2 ^ 64) (sym (after_words_short m i x n short)) (after_eights-lt m i x n h)
  | inr long ↦ subst (λ z. z < 2 ^ 64) (sym (after_words_long m i x n long)) (mod-lt _ (pow_pos 64))
]

after_tail-lt : (m : List ℕ) (i x n : ℕ) → x < 2 ^ 64 → after_tail m i x n < 2 ^ 64
unfolding after_tail
after_tail-lt m i x n h = after_units-lt _ _ take_byte take_byte_tells (λ u. slice_index m (i + n / 4 * 4 + u)) (after_words m i x n) (n % 4) (after_words-lt m i x n h)

-- ---- equal parts of two lists

accumulator_same : (seed : ℕ) (m n : List ℕ) (j k : ℕ) → ((i : ℕ) → i < k → word_at w64 m (i * 32 + j * 8) ≡ word_at w64 n (i * 32 + j * 8)) → accumulator seed m j k ≡ accumulator seed n j k
unfolding accumulator
accumulator_same seed m n j k same = after_units_same round _ _ (slice_index (initial_accumulators seed) j) k same

-- Lemma: lists that differ only in the tail have the same start value.
start_same : (seed : ℕ) (m n : List ℕ) (from size : ℕ) → DiffersWithin from size m n → length m / 32 * 32 ≤ from → start seed m ≡ start seed n
unfolding start
start_same seed m n from size apart late =
    let k = length m / 32 in
    let one = λ (j : ℕ) (low : j < 4). accumulator_same seed m n j k (λ i h. word_outside w64 m n from size (i * 32 + j * 8) apart (omega arith) (inl (omega arith))) in
    rw (apart.lengths, one 0 (lit< tt), one 1 (lit< tt), one 2 (lit< tt), one 3 (lit< tt)) refl

eights_same : (m n : List ℕ) (i x t : ℕ) → ((u : ℕ) → u < t / 8 → word_at w64 m (i + u * 8) ≡ word_at w64 n (i + u * 8)) → after_eights m i x t ≡ after_eights n i x t
unfolding after_eights
eights_same m n i x t same = after_units_same take_eight _ _ x (t / 8) same

-- ---- consequences of equal values

-- Lemma: equal values of lists of the same length are equal before the avalanche.
tail_told : (m n : List ℕ) (seed other : ℕ) → length n ≡ length m → xxh64 seed m ≡ xxh64 other n
    → let i = length m / 32 * 32 in
    after_tail m i (start seed m) (length m % 32) ≡ after_tail n i (start other n) (length m % 32)
unfolding xxh64
tail_told m n seed other len e =
    avalanche_64_told _ _ (after_tail-lt m _ _ _ (start-lt seed m)) (after_tail-lt n _ _ _ (start-lt other n)) (rw len at e)

-- Lemma: values that are equal after the same bytes are equal before them.
words_told : (m n : List ℕ) (i x y t : ℕ) → IsBytes m → x < 2 ^ 64 → y < 2 ^ 64 → ((u : ℕ) → u < t % 4 → slice_index n (i + t / 4 * 4 + u) ≡ slice_index m (i + t / 4 * 4 + u))
    → after_tail m i x t ≡ after_tail n i y t → after_words m i x t ≡ after_words n i y t
unfolding after_tail
words_told m n i x y t p bx by same e =
    bytes_told (2 ^ 64) take_byte take_byte_tells m n (i + t / 4 * 4) _ _ (t % 4) p (after_words-lt m i x t bx) (after_words-lt n i y t by) same e

-- Lemma: values that are equal after the same four-byte word, or none, are equal before it.
eights_told : (m n : List ℕ) (i x y t : ℕ) → IsBytes m → x < 2 ^ 64 → y < 2 ^ 64 → (4 ≤ t % 8 → word_at w32 n (i + t / 8 * 8) ≡ word_at w32 m (i + t / 8 * 8))
    → after_words m i x t ≡ after_words n i y t → after_eights m i x t ≡ after_eights n i y t
eights_told m n i x y t p bx by same e = elim (cases_lt (t % 8) 4) [
  | inl short ↦ sym (after_words_short m i x t short) ∙ e ∙ after_words_short n i y t short
  | inr long ↦
      take_four_tells.in_state (word_at w32 m (i + t / 8 * 8)) (word_at-lt_32 m (i + t / 8 * 8) p) _ _ (after_eights-lt m i x t bx) (after_eights-lt n i y t by)
      (sym (after_words_long m i x t long) ∙ e ∙ after_words_long n i y t long ∙ ap (take_four (after_eights n i y t)) (same long))
]

-- Lemma: values that are equal after the eight-byte words of one list are equal before them.
begin_told : (m : List ℕ) (i x y t : ℕ) → IsBytes m → x < 2 ^ 64 → y < 2 ^ 64 → after_eights m i x t ≡ after_eights m i y t → x ≡ y
unfolding after_eights
begin_told m i x y t p bx by e =
    start_told _ _ take_eight take_eight_tells (λ u. word_at w64 m (i + u * 8)) x y (t / 8) (λ u low. word_at-lt_64 m (i + u * 8) p) bx by e

-- ---- the laws

-- Lemma: a changed byte after the whole words changes the value.
byte_law : (seed : ℕ) (m n : List ℕ) (from : ℕ) → IsBytes m → IsBytes n → length m / 4 * 4 ≤ from → from < length m → DiffersWithin from 1 m n → xxh64 seed m ≢ xxh64 seed n
unfolding after_tail
byte_law seed m n from p q late within apart e =
    let i = length m / 32 * 32 in
    let t = length m % 32 in
    let begun : start seed m ≡ start seed n = start_same seed m n from 1 apart (omega arith) in
    let eights : after_eights m i (start seed m) t ≡ after_eights n i (start seed n) t =
    eights_same m n i (start seed m) t (λ k h. word_outside w64 m n from 1 (i + k * 8) apart (omega arith) (inl (omega arith))) ∙ ap (λ x. after_eights n i x t) begun in
    let words : after_words m i (start seed m) t ≡ after_words n i (start seed n) t = elim (cases_lt (t % 8) 4) [
      | inl short ↦ after_words_short m i (start seed m) t short ∙ eights ∙ sym (after_words_short n i (start seed n) t short)
      | inr long ↦
          after_words_long m i (start seed m) t long
          ∙ ap (λ x. take_four x (word_at w32 m (i + t / 8 * 8))) eights
          ∙ ap (take_four (after_eights n i (start seed n) t)) (word_outside w32 m n from 1 (i + t / 8 * 8) apart (omega arith) (inl (omega arith)))
          ∙ sym (after_words_long n i (start seed n) t long)
    ] in
    byte_noticed (2 ^ 64) take_byte take_byte_tells m n (i + t / 4 * 4) _ _ (t % 4) from p q (after_words-lt m i _ t (start-lt seed m)) words (omega arith) (omega arith) apart
    (tail_told m n seed seed apart.lengths e)

-- Lemma: a change in the four-byte word changes the value.
four_law : (seed : ℕ) (m n : List ℕ) (from : ℕ) → IsBytes m → IsBytes n → from ≡ length m / 8 * 8 → from + 4 ≤ length m → DiffersWithin from 4 m n → xxh64 seed m ≢ xxh64 seed n
four_law seed m n from p q place within apart e =
    let i = length m / 32 * 32 in
    let t = length m % 32 in
    let at : i + t / 8 * 8 ≡ from = omega arith in
    let long : 4 ≤ t % 8 = omega arith in
    let begun : start seed m ≡ start seed n = start_same seed m n from 4 apart (omega arith) in
    let eights : after_eights m i (start seed m) t ≡ after_eights n i (start seed n) t =
    eights_same m n i (start seed m) t (λ k h. word_outside w64 m n from 4 (i + k * 8) apart (omega arith) (inl (omega arith))) ∙ ap (λ x. after_eights n i x t) begun in
    let words = words_told m n i (start seed m) (start seed n) t p (start-lt seed m) (start-lt seed n) (λ u h. apart.outside (i + t / 4 * 4 + u) (inr (omega arith))) (tail_told m n seed seed apart.lengths e) in
    let told = take_four_tells.in_unit (after_eights m i (start seed m) t) (after_eights-lt m i _ t (start-lt seed m)) (word_at w32 m (i + t / 8 * 8)) (word_at w32 n (i + t / 8 * 8))
    (word_at-lt_32 m (i + t / 8 * 8) p) (word_at-lt_32 n (i + t / 8 * 8) q)
    (sym (after_words_long m i (start seed m) t long) ∙ words ∙ after_words_long n i (start seed n) t long ∙ ap (λ x. take_four x (word_at w32 n (i + t / 8 * 8))) (sym eights)) in
    differ m n from 4 apart (told_by_word_32 m n from from p q within (omega (arith, apart.lengths)) (subst (λ x. word_at w32 m x ≡ word_at w32 n x) at told))

-- Lemma: a change in an eight-byte word of the tail changes the value.
eight_law : (seed : ℕ) (m n : List ℕ) (from : ℕ) → IsBytes m → IsBytes n → length m / 32 * 32 ≤ from → from % 8 ≡ 0 → from + 8 ≤ length m → DiffersWithin from 8 m n → xxh64 seed m ≢ xxh64 seed n
unfolding after_eights
eight_law seed m n from p q late whole within apart e =
    let i = length m / 32 * 32 in
    let t = length m % 32 in
    let u = (from - i) / 8 in
    let at : i + u * 8 ≡ from = omega arith in
    let begun : start seed m ≡ start seed n = start_same seed m n from 8 apart late in
    let words = words_told m n i (start seed m) (start seed n) t p (start-lt seed m) (start-lt seed n) (λ k h. apart.outside (i + t / 4 * 4 + k) (inr (omega arith))) (tail_told m n seed seed apart.lengths e) in
    let eights = eights_told m n i (start seed m) (start seed n) t p (start-lt seed m) (start-lt seed n) (λ long. sym (word_outside w32 m n from 8 (i + t / 8 * 8) apart (omega arith) (inr (omega arith)))) words in
    let same : (k : ℕ) → k < t / 8 → k ≢ u → word_at w64 m (i + k * 8) ≡ word_at w64 n (i + k * 8) = λ k h away.
    word_outside w64 m n from 8 (i + k * 8) apart (omega arith) (elim (cases_lt k u) [ inl before ↦ inl (omega arith) | inr after ↦ inr (omega (arith, away)) ]) in
    let told = unit_told _ _ take_eight take_eight_tells (λ k. word_at w64 m (i + k * 8)) (λ k. word_at w64 n (i + k * 8)) u (start seed m) (t / 8) same
    (λ k h. word_at-lt_64 m (i + k * 8) p) (λ k h. word_at-lt_64 n (i + k * 8) q) (omega arith) (start-lt seed m)
    (eights ∙ ap (λ x. after_units take_eight (λ k. word_at w64 n (i + k * 8)) x (t / 8)) (sym begun)) in
    differ m n from 8 apart (told_by_word_64 m n from from p q within (omega (arith, apart.lengths)) (subst (λ x. word_at w64 m x ≡ word_at w64 n x) at told))

-- Lemma: a list that differs in one unit of the tail has another value.
pub unit_law_64 : (seed : ℕ) (m n : List ℕ) (from size : ℕ) → IsBytes m → IsBytes n → IsTailUnit64 (length m) from size → DiffersWithin from size m n → xxh64 seed n ≢ xxh64 seed m
unit_law_64 seed m n from size p q unit apart e = elim unit [
  | inl eight ↦ eight_law seed m n from p q eight.1 eight.2 eight.3 (subst (λ x. DiffersWithin from x m n) eight.0 apart) (sym e)
  | inr (inl four) ↦ four_law seed m n from p q four.1 four.2 (subst (λ x. DiffersWithin from x m n) four.0 apart) (sym e)
  | inr (inr byte) ↦ byte_law seed m n from p q byte.1 byte.2 (subst (λ x. DiffersWithin from x m n) byte.0 apart) (sym e)
]

-- Lemma: the start value of less than 32 bytes is seed + p5 + length, modulo 2 ^ 64.
short_start : (seed : ℕ) (m : List ℕ) → length m < 32 → start seed m ≡ ((seed + p5) % 2 ^ 64 + counted (length m)) % 2 ^ 64
unfolding start
short_start seed m short =
    let test : nat_lt (length m) 32 ≡ true = grind (arith, nat_tests) in
    rw test refl

pub seed_law_64 : (seed other : ℕ) (m : List ℕ) → seed < 2 ^ 64 → other < 2 ^ 64 → IsBytes m → length m < 32 → other ≢ seed → xxh64 other m ≢ xxh64 seed m
seed_law_64 seed other m small small' p short differs e =
    let i = length m / 32 * 32 in
    let t = length m % 32 in
    let words = words_told m m i (start other m) (start seed m) t p (start-lt other m) (start-lt seed m) (λ u h. refl) (tail_told m m other seed refl e) in
    let eights = eights_told m m i (start other m) (start seed m) t p (start-lt other m) (start-lt seed m) (λ long. refl) words in
    let starts = begin_told m i (start other m) (start seed m) t p (start-lt other m) (start-lt seed m) eights in
    let sums = sym (short_start other m short) ∙ starts ∙ short_start seed m short in
    differs (omega (arith, sums))
