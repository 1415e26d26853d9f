-- Lemmas on the bytes that fill no stripe: as a separate list and in the whole list, they give the same value.
use Rattle.twox_plain.proofs.Prelude.{◌%◌, ◌*◌, ◌/◌, ◌≡◌, List, drop, w32, ℕ}
use Rattle.twox_plain.specs.Xxh32.{take_word, take_byte, after_words, after_tail}
use Rattle.twox_plain.proofs.UnitFacts.{words_drop, bytes_drop}

after_words-drop : (i : ℕ) (m : List ℕ) (x n : ℕ) → after_words (drop i m) 0 x n ≡ after_words m i x n
unfolding after_words
after_words-drop i m x n = words_drop w32 take_word i m x (n / 4) 4

pub after_tail-drop : (i : ℕ) (m : List ℕ) (x n : ℕ) → after_tail (drop i m) 0 x n ≡ after_tail m i x n
unfolding after_tail
after_tail-drop i m x n =
    rw (after_words-drop i m x n) (bytes_drop take_byte i m (after_words m i x n) (n % 4) (n / 4 * 4))
