-- Lemmas on word_at for lists that are split, joined or read one byte at a time.
use Rattle.std.proofs.Common.{◌≡◌, ℕ, zero, suc, ◌+◌, ◌-◌, ◌*◌, ◌<◌, ◌≤◌, List, [], ◌∷◌, ◌++◌, length, take, drop, get_or, slice_index, refl, sym, ap, ap₂, ◌∙◌, arith, add-zero, length-drop}
use Rattle.std.proofs.lemmas.List.{drop_more, drop-drop, drop_at, drop-append-le, take-append-le, take-take, drop-take}
use Rattle.std.proofs.Math.Nat.{zero-mul}
use Rattle.std.specs.Simd.{first_chunks}
use Rattle.std.specs.Int.{Width, byte_len, from_le_bytes}
use Rattle.twox_words.specs.Word.{word_at}

-- ---- a load

-- The k elements of m from offset i + j.
abbrev pub listed : List ℕ → ℕ → ℕ → ℕ → List ℕ
listed m i j zero = []
listed m i j (suc k) = slice_index m (i + j) ∷ listed m i (j + 1) k

pub take_listed : (m : List ℕ) (i j k : ℕ) → i + j + k ≤ length m → take k (drop (i + j) m) ≡ listed m i j k
take_listed m i j zero fits = refl
take_listed m i j (suc k) fits =
    let next : i + j + 1 ≡ i + (j + 1) = omega arith in
    rw (drop_more m (i + j) 0 (omega arith), next) (ap (λ (xs : List ℕ). slice_index m (i + j) ∷ xs) (take_listed m i (j + 1) k (omega arith)))

-- Lemma: the bytes listed one at a time from offset i decode to the word at offset i.
pub word_at_listed : (w : Width) (m : List ℕ) (i : ℕ) → i + byte_len w ≤ length m → from_le_bytes w (listed m i 0 (byte_len w)) ≡ word_at w m i
unfolding word_at
word_at_listed w m i fits =
    let e : take (byte_len w) (drop (i + 0) m) ≡ listed m i 0 (byte_len w) = take_listed m i 0 (byte_len w) (omega arith) in
    rw (← e, add-zero) refl

-- ---- a part of the list

-- Lemma: the word at offset i after the first k bytes of m is the word of m at offset k + i.
pub word_at-drop : (w : Width) (k : ℕ) (m : List ℕ) (i : ℕ) → word_at w (drop k m) i ≡ word_at w m (k + i)
unfolding word_at
word_at-drop w k m i = rw (drop-drop i k m) refl

-- Lemma: a word within the first n bytes of m is the same word of take n m.
pub word_at-take : (w : Width) (n : ℕ) (m : List ℕ) (i : ℕ) → i + byte_len w ≤ n → word_at w (take n m) i ≡ word_at w m i
unfolding word_at
word_at-take w n m i fits =
    let whole : i + (n - i) ≡ n = omega arith in
    let cut : drop i (take (i + (n - i)) m) ≡ take (n - i) (drop i m) = drop-take i (n - i) m in
    rw (rw whole at cut, take-take (byte_len w) (n - i) (drop i m) (omega arith)) refl

-- Lemma: m ++ d has the words of m at their offsets, and the words of d at their offsets plus length m.
pub word_at-append : (w : Width) (m d : List ℕ) (i : ℕ) → i + byte_len w ≤ length m → word_at w (m ++ d) i ≡ word_at w m i
unfolding word_at
word_at-append w m d i fits =
    rw (drop-append-le i m d (omega arith), take-append-le (byte_len w) (drop i m) d (omega (arith, length-drop i m))) refl

pub word_at-append_right : (w : Width) (m d : List ℕ) (i : ℕ) → word_at w (m ++ d) (length m + i) ≡ word_at w d i
word_at-append_right w m d i =
    sym (word_at-drop w (length m) (m ++ d) i) ∙ ap (λ (x : List ℕ). word_at w x i) (drop_at m d (length m) refl)

-- Lemma: the word at offset i in the n bytes of m from offset `base` is the word of m at offset base + i.
pub word_at-part : (w : Width) (n : ℕ) (m part : List ℕ) (base i : ℕ) → part ≡ take n (drop base m) → i + byte_len w ≤ n → word_at w part i ≡ word_at w m (base + i)
word_at-part w n m part base i e fits = rw e (word_at-take w n (drop base m) i fits ∙ word_at-drop w base m i)

-- ---- chunks

-- Lemma: element i of first_chunks n k xs is the chunk of n elements at offset i * n.
pub first_chunks_at : {X : Type 0} (n k : ℕ) (xs : List X) (i : ℕ) (d : List X) → i < k → get_or (first_chunks n k xs) i d ≡ take n (drop (i * n) xs)
first_chunks_at n zero xs i d low = absurd (omega arith)
first_chunks_at n (suc k) xs zero d low = rw zero-mul refl
first_chunks_at n (suc k) xs (suc i) d low =
    let place : n + i * n ≡ suc i * n = omega arith in
    first_chunks_at n k (drop n xs) i d (omega arith) ∙ rw (drop-drop (i * n) n xs, place) refl

-- Lemma: the first k chunks of n elements are those of the first k * n elements.
pub first_chunks_take : {X : Type 0} (n k : ℕ) (xs : List X) → first_chunks n k (take (k * n) xs) ≡ first_chunks n k xs
first_chunks_take n zero xs = refl
first_chunks_take {X = X} n (suc k) xs =
    let place : suc k * n ≡ n + k * n = omega arith in
    rw place
    (ap₂ (λ (x : List X) (ys : List (List X)). x ∷ ys)
    (take-take n (n + k * n) xs (omega arith))
    (ap (first_chunks n k) (drop-take n (k * n) xs) ∙ first_chunks_take n k (drop n xs)))
