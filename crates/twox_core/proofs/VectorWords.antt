-- Lemmas on the words of a vector of any width that is loaded from bytes.
use Rattle.std.proofs.Common.{◌≡◌, ℕ, ◌+◌, ◌*◌, ◌^◌, ◌<◌, ◌≤◌, List, [], ◌∷◌, take, drop, get_or, Fits, w8, refl, ◌∙◌, arith, add-zero, length, length-drop, length-take-le}
use lib.Lanes.{number_l, digits_l}
use Rattle.twox_core.proofs.Prelude.{below_from_Fits, chunk-fits, from_le_bytes, get_or_wider, listed, take_listed, w64, word64, word_at-part}
use Rattle.twox_words.specs.Word.{word_at}

number_of_eight : (a b c d e f g h : ℕ) → number_l 256 (a ∷ b ∷ c ∷ d ∷ e ∷ f ∷ g ∷ h ∷ []) ≡ from_le_bytes w64 (a ∷ b ∷ c ∷ d ∷ e ∷ f ∷ g ∷ h ∷ [])
number_of_eight a b c d e f g h = omega arith

number_of_word : (m : List ℕ) (i : ℕ) → i + 8 ≤ length m → number_l 256 (take 8 (drop i m)) ≡ word64 m i
unfolding word_at
number_of_word m i fits =
    let bytes : take 8 (drop (i + 0) m) ≡ listed m i 0 8 = take_listed m i 0 8 (omega arith) in
    rw (rw (add-zero i) at bytes) (number_of_eight _ _ _ _ _ _ _ _)

-- Lemma: lane j of a vector of n words loaded from offset `base` is the word at offset base + 8 * j.
pub word_of_vector : (n : ℕ) (m : List ℕ) (base j : ℕ) → ((k : ℕ) → Fits w8 (get_or m k 0)) → base + 8 * n ≤ length m → j < n
    → get_or (digits_l (2 ^ 64) n (number_l 256 (take (8 * n) (drop base m)))) j 0 ≡ word64 m (base + 8 * j)
word_of_vector n m base j bytes fits low =
    get_or_wider 256 8 (2 ^ 64) n (take (8 * n) (drop base m)) j refl (below_from_Fits w8 (take (8 * n) (drop base m)) (chunk-fits w8 base (8 * n) m bytes)) low
    ∙ number_of_word (take (8 * n) (drop base m)) (8 * j) (omega (arith, length-take-le (8 * n) (drop base m) (omega (arith, length-drop base m))))
    ∙ word_at-part w64 (8 * n) m (take (8 * n) (drop base m)) base (8 * j) refl (omega arith)
