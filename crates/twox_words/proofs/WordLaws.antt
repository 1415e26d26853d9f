-- Lemmas on words: a word is below 2 ^ 32 or 2 ^ 64, and equal words have equal bytes.
use Rattle.std.proofs.Common.{◌≡◌, ℕ, ◌+◌, ◌^◌, ◌<◌, ◌≤◌, List, length, take, drop, get_or, slice_index, inl, inr, refl, sym, ap, subst, ◌∙◌, arith, lit<, length-drop, length-take}
use Rattle.std.proofs.lemmas.Bool.{cases_lt}
use Rattle.std.proofs.lemmas.List.{get_or-drop, get_or-take, get_or_past}
use Rattle.std.proofs.lemmas.Nat.{le_bytes_4, le_bytes_8}
use Rattle.std.specs.Int.{Width, w32, w64, byte_len, from_le_bytes, to_le_bytes}
use Rattle.twox_words.specs.Word.{IsBytes, word_at}

-- ---- parts of a list

pub at_part : (n i k : ℕ) (m : List ℕ) → k < n → slice_index (take n (drop i m)) k ≡ slice_index m (i + k)
at_part n i k m low = get_or-take n (drop i m) k 0 low ∙ get_or-drop i m k 0

pub IsBytes-part : (n i : ℕ) (m : List ℕ) → IsBytes m → IsBytes (take n (drop i m))
IsBytes-part n i m bytes k = elim (cases_lt k n) [
  | inl low ↦ subst (λ (x : ℕ). x < 2 ^ 8) (sym (at_part n i k m low)) (bytes (i + k))
  | inr high ↦
      let past : length (take n (drop i m)) ≤ k = omega (arith, length-take n (drop i m)) in
      subst (λ (x : ℕ). x < 2 ^ 8) (sym (get_or_past (take n (drop i m)) k 0 past)) (lit< tt)
]

pub length-part : (n i : ℕ) (m : List ℕ) → i + n ≤ length m → length (take n (drop i m)) ≡ n
length-part n i m fits = length-take n (drop i m) ∙ omega (arith, length-drop i m)

-- ---- bounds of words

pub word_at-lt_32 : (m : List ℕ) (i : ℕ) → IsBytes m → word_at w32 m i < 2 ^ 32
unfolding word_at
word_at-lt_32 m i bytes =
    let b = IsBytes-part 4 i m bytes in
    let b0 = b 0 in
    let b1 = b 1 in
    let b2 = b 2 in
    let b3 = b 3 in omega arith

pub word_at-lt_64 : (m : List ℕ) (i : ℕ) → IsBytes m → word_at w64 m i < 2 ^ 64
unfolding word_at
word_at-lt_64 m i bytes =
    let b = IsBytes-part 8 i m bytes in
    let b0 = b 0 in
    let b1 = b 1 in
    let b2 = b 2 in
    let b3 = b 3 in
    let b4 = b 4 in
    let b5 = b 5 in
    let b6 = b 6 in
    let b7 = b 7 in omega arith

-- ---- bytes of equal words, given that encoding inverts decoding

module _ (w : Width) (back : (bs : List ℕ) (n : ℕ) → length bs ≡ byte_len w → ((k : ℕ) → get_or bs k 0 < 256) → n ≡ from_le_bytes w bs → to_le_bytes w n ≡ bs) where
  told_by_word : (m n : List ℕ) (i j : ℕ) → IsBytes m → IsBytes n → i + byte_len w ≤ length m → j + byte_len w ≤ length n → word_at w m i ≡ word_at w n j
      → (k : ℕ) → k < byte_len w → slice_index m (i + k) ≡ slice_index n (j + k)
  unfolding word_at
  told_by_word m n i j p q fits fits' e k low =
      let a = take (byte_len w) (drop i m) in
      let b = take (byte_len w) (drop j n) in
      let lists : a ≡ b =
      sym (back a (from_le_bytes w a) (length-part (byte_len w) i m fits) (IsBytes-part (byte_len w) i m p) refl)
      ∙ ap (to_le_bytes w) e
      ∙ back b (from_le_bytes w b) (length-part (byte_len w) j n fits') (IsBytes-part (byte_len w) j n q) refl in
      sym (at_part (byte_len w) i k m low) ∙ ap (λ (l : List ℕ). slice_index l k) lists ∙ at_part (byte_len w) j k n low

pub told_by_word_32 : (m n : List ℕ) (i j : ℕ) → IsBytes m → IsBytes n → i + 4 ≤ length m → j + 4 ≤ length n → word_at w32 m i ≡ word_at w32 n j
    → (k : ℕ) → k < 4 → slice_index m (i + k) ≡ slice_index n (j + k)
told_by_word_32 = told_by_word w32 le_bytes_4

pub told_by_word_64 : (m n : List ℕ) (i j : ℕ) → IsBytes m → IsBytes n → i + 8 ≤ length m → j + 8 ≤ length n → word_at w64 m i ≡ word_at w64 n j
    → (k : ℕ) → k < 8 → slice_index m (i + k) ≡ slice_index n (j + k)
told_by_word_64 = told_by_word w64 le_bytes_8
