-- Lemmas on the bytes of a vector: the bytes of a vector of four words are the bytes of the words in order.
use Rattle.twox_core.proofs.Prelude.{[], ◌%◌, ◌*◌, ◌++◌, ◌+◌, ◌/◌, ◌<◌, ◌^◌, ◌∙◌, ◌∷◌, ◌≡◌, List, ap, arith, refl, suc, to_le_bytes, w64, zero, ℕ}

-- The k lowest bytes of n.
abbrev pub low_bytes : ℕ → ℕ → List ℕ
low_bytes zero n = []
low_bytes (suc k) n = n % 256 ∷ low_bytes k (n / 256)

-- n without its k lowest bytes.
abbrev without : ℕ → ℕ → ℕ
without zero n = n
without (suc k) n = without k (n / 256)

-- Lemma: lists are equal if their first eight elements and their rests are equal.
eight : (a b c d e f g h a' b' c' d' e' f' g' h' : ℕ) (rest rest' : List ℕ)
    → a ≡ a' → b ≡ b' → c ≡ c' → d ≡ d' → e ≡ e' → f ≡ f' → g ≡ g' → h ≡ h' → rest ≡ rest'
    → a ∷ b ∷ c ∷ d ∷ e ∷ f ∷ g ∷ h ∷ rest ≡ a' ∷ b' ∷ c' ∷ d' ∷ e' ∷ f' ∷ g' ∷ h' ∷ rest'
eight a b c d e f g h a' b' c' d' e' f' g' h' rest rest' p q r s t u v w z = rw (p, q, r, s, t, u, v, w, z) refl

-- Lemma: a + 2 ^ 64 * r without its eight lowest bytes is r if a is below 2 ^ 64.
past_word : (a r : ℕ) → a < 2 ^ 64 → without 8 (a + 2 ^ 64 * r) ≡ r
past_word a r small = omega arith

-- Lemma: the low bytes of a + 2 ^ 64 * r are the bytes of the word a, then the low bytes of r.
word_first : (k a r : ℕ) (rest : List ℕ) → a < 2 ^ 64 → low_bytes k r ≡ rest → low_bytes (suc (suc (suc (suc (suc (suc (suc (suc k)))))))) (a + 2 ^ 64 * r) ≡ to_le_bytes w64 a ++ rest
word_first k a r rest small e =
    eight _ _ _ _ _ _ _ _ _ _ _ _ _ _ _ _ _ _ (omega arith) (omega arith) (omega arith) (omega arith) (omega arith) (omega arith) (omega arith) (omega arith) (ap (low_bytes k) (past_word a r small) ∙ e)

pub four_words_bytes : (a b c d : ℕ) → a < 2 ^ 64 → b < 2 ^ 64 → c < 2 ^ 64 → d < 2 ^ 64
    → low_bytes 32 (a + 2 ^ 64 * (b + 2 ^ 64 * (c + 2 ^ 64 * (d + 2 ^ 64 * 0))))
    ≡ to_le_bytes w64 a ++ (to_le_bytes w64 b ++ (to_le_bytes w64 c ++ to_le_bytes w64 d))
four_words_bytes a b c d p q r s =
    word_first 24 a _ _ p (word_first 16 b _ _ q (word_first 8 c _ _ r (word_first 0 d 0 [] s refl)))
