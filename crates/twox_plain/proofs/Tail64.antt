-- Lemmas on the bytes that fill no stripe: as a separate list and in the whole list, they give the same value.
use Rattle.twox_plain.proofs.Prelude.{◌%◌, ◌*◌, ◌+◌, ◌/◌, ◌<◌, ◌∙◌, ◌≡◌, ◌≤◌, List, ap, arith, drop, false, nat_lt, nat_tests, refl, true, w32, w64, word_at-drop, ℕ}
use Rattle.twox_words.specs.Word.{word_at}
use Rattle.twox_plain.specs.Xxh64.{take_eight, take_byte, take_four, after_eights, after_words, after_tail}
use Rattle.twox_plain.proofs.UnitFacts.{words_drop, bytes_drop}

after_eights-drop : (i : ℕ) (m : List ℕ) (x n : ℕ) → after_eights (drop i m) 0 x n ≡ after_eights m i x n
unfolding after_eights
after_eights-drop i m x n = words_drop w64 take_eight i m x (n / 8) 8

after_words-drop : (i : ℕ) (m : List ℕ) (x n : ℕ) → after_words (drop i m) 0 x n ≡ after_words m i x n
unfolding after_words
after_words-drop i m x n =
    let word : word_at w32 (drop i m) (0 + n / 8 * 8) ≡ word_at w32 m (i + n / 8 * 8) = word_at-drop w32 i m (0 + n / 8 * 8) ∙ ap (word_at w32 m) (omega arith) in
    rw (after_eights-drop i m x n, word) refl

pub after_tail-drop : (i : ℕ) (m : List ℕ) (x n : ℕ) → after_tail (drop i m) 0 x n ≡ after_tail m i x n
unfolding after_tail
after_tail-drop i m x n =
    rw (after_words-drop i m x n) (bytes_drop take_byte i m (after_words m i x n) (n % 4) (n / 4 * 4))

-- Lemma: after_words is after_eights, and one take_four more if at least four bytes are left.
pub after_words_short : (m : List ℕ) (i x n : ℕ) → n % 8 < 4 → after_words m i x n ≡ after_eights m i x n
unfolding after_words
after_words_short m i x n short =
    let test : nat_lt (n % 8) 4 ≡ true = grind (arith, nat_tests) in
    rw test refl

pub after_words_long : (m : List ℕ) (i x n : ℕ) → 4 ≤ n % 8 → after_words m i x n ≡ take_four (after_eights m i x n) (word_at w32 m (i + n / 8 * 8))
unfolding after_words
after_words_long m i x n long =
    let test : nat_lt (n % 8) 4 ≡ false = grind (arith, nat_tests) in
    rw test refl
