-- Lemmas on values that take words or bytes of a list one after another, for lists that are split or joined.
use Rattle.std.proofs.Common.{◌≡◌, ℕ, zero, suc, ◌+◌, ◌-◌, ◌*◌, ◌/◌, ◌<◌, ◌≤◌, List, ◌++◌, length, take, drop, slice_index, refl, sym, ap, ap₂, ◌∙◌, arith, add-one, add-zero, add-suc}
use Rattle.std.proofs.Math.Nat.{add-div_right, add-mul, div-mul-le_self, one-mul, zero-mul}
use Rattle.twox_plain.proofs.Prelude.{Width, byte_len, drop-drop, get_or-drop, le-div, mul-le, word_at-append, word_at-drop, word_at-part}
use Rattle.twox_words.specs.Word.{word_at}
use Rattle.twox_plain.specs.Units.{after_units}

pub after_units_next : (step : ℕ → ℕ → ℕ) (unit : ℕ → ℕ) (a k : ℕ) → after_units step unit a (k + 1) ≡ step (after_units step unit a k) (unit k)
unfolding after_units
after_units_next step unit a k = rw add-one refl

-- Lemma: equal units give equal values.
pub after_units_same : (step : ℕ → ℕ → ℕ) (f g : ℕ → ℕ) (a k : ℕ) → ((i : ℕ) → i < k → f i ≡ g i) → after_units step f a k ≡ after_units step g a k
unfolding after_units
after_units_same step f g a zero same = refl
after_units_same step f g a (suc k) same =
    ap₂ step (after_units_same step f g a k (λ i low. same i (omega arith))) (same k (omega arith))

-- ---- the words at offset `at` of each block of a message

-- Lemma: bytes appended to m don't change the value after the words of k blocks of m.
pub words_longer : (w : Width) (step : ℕ → ℕ → ℕ) (m d : List ℕ) (a k block at : ℕ) → at + byte_len w ≤ block → k * block ≤ length m
    → after_units step (λ i. word_at w (m ++ d) (i * block + at)) a k ≡ after_units step (λ i. word_at w m (i * block + at)) a k
words_longer w step m d a k block at inside within =
    after_units_same step _ _ a k (λ i low.
    let rows : (i + 1) * block ≤ k * block = mul-le (i + 1) block k block (omega arith) (omega arith) in
    word_at-append w m d (i * block + at) (omega arith))

-- Lemma: one more word, read from block k as a separate list, gives k + 1 words.
pub words_one : (w : Width) (step : ℕ → ℕ → ℕ) (a : ℕ) (m part : List ℕ) (k block at : ℕ) → part ≡ take block (drop (k * block) m) → at + byte_len w ≤ block
    → after_units step (λ i. word_at w part (i * block + at)) (after_units step (λ i. word_at w m (i * block + at)) a k) 1 ≡ after_units step (λ i. word_at w m (i * block + at)) a (k + 1)
unfolding after_units
words_one w step a m part k block at e inside =
    let word : word_at w part (0 * block + at) ≡ word_at w m (k * block + at) = ap (word_at w part) (omega arith) ∙ word_at-part w block m part (k * block) at e inside in
    rw (add-one, word) refl

-- Lemma: n words of the bytes after the first k blocks give k + n words.
pub words_more : (w : Width) (step : ℕ → ℕ → ℕ) (a : ℕ) (m rest : List ℕ) (k n block at : ℕ) → rest ≡ drop (k * block) m
    → after_units step (λ i. word_at w rest (i * block + at)) (after_units step (λ i. word_at w m (i * block + at)) a k) n ≡ after_units step (λ i. word_at w m (i * block + at)) a (k + n)
unfolding after_units
words_more w step a m rest k zero block at e = rw add-zero refl
words_more w step a m rest k (suc n) block at e =
    let word : word_at w rest (n * block + at) ≡ word_at w m ((k + n) * block + at) = rw e (word_at-drop w (k * block) m (n * block + at) ∙ ap (word_at w m) (omega arith)) in
    rw add-suc (ap₂ step (words_more w step a m rest k n block at e) word)

-- ---- words and bytes of the tail, in a separate list and in the whole list

pub words_drop : (w : Width) (step : ℕ → ℕ → ℕ) (i : ℕ) (m : List ℕ) (a k size : ℕ)
    → after_units step (λ u. word_at w (drop i m) (0 + u * size)) a k ≡ after_units step (λ u. word_at w m (i + u * size)) a k
words_drop w step i m a k size =
    after_units_same step _ _ a k (λ u low. word_at-drop w i m (0 + u * size) ∙ ap (word_at w m) (omega arith))

pub bytes_drop : (step : ℕ → ℕ → ℕ) (i : ℕ) (m : List ℕ) (a k at : ℕ)
    → after_units step (λ u. slice_index (drop i m) (0 + at + u)) a k ≡ after_units step (λ u. slice_index m (i + at + u)) a k
bytes_drop step i m a k at =
    after_units_same step _ _ a k (λ u low. get_or-drop i m (0 + at + u) 0 ∙ ap (slice_index m) (omega arith))

-- ---- a loop that takes a list unit by unit

-- The number of units of w bytes taken of m if `rest` is left.
abbrev pub taken : (w : ℕ) (m rest : List ℕ) → ℕ
taken w m rest = length m / w - length rest / w

-- True if `rest` is the bytes after the units taken of m.
pub record IsRest (w : ℕ) (m rest : List ℕ) : Type 0 where
  pub shorter : length rest ≤ length m
  pub follows : rest ≡ drop (taken w m rest * w) m

one_more : (all before after : ℕ) → before ≡ after + 1 → before ≤ all → all - after ≡ all - before + 1
one_more all before after next within = omega (arith, next, within)

pub taken_next : (w : ℕ) (m rest after : List ℕ) → 0 < w → length rest ≡ length after + w → length rest ≤ length m → taken w m after ≡ taken w m rest + 1
taken_next w m rest after some unit shorter =
    let most : length rest / w * w ≤ length m = omega (arith, div-mul-le_self (length rest) w, shorter) in
    one_more (length m / w) (length rest / w) (length after / w)
    (ap (λ (n : ℕ). n / w) unit ∙ add-div_right (length after) some)
    (le-div (length rest / w) (length m) w some most)

pub rest_next : (w : ℕ) (m rest after : List ℕ) → 0 < w → after ≡ drop w rest → length rest ≡ length after + w → IsRest w m rest → IsRest w m after
rest_next w m rest after some cut unit held =
    let n = taken w m rest in
    let place : n * w + w ≡ (n + 1) * w = rw (add-mul n 1 w, one-mul w) refl in
    record {
      shorter = omega (arith, unit, held.shorter);
      follows = cut ∙ ap (drop w) held.follows ∙ drop-drop w (n * w) m
          ∙ ap (λ (k : ℕ). drop k m) place ∙ ap (λ (k : ℕ). drop (k * w) m) (sym (taken_next w m rest after some unit held.shorter));
    }

pub rest_whole : (w : ℕ) (m : List ℕ) → IsRest w m m
rest_whole w m =
    let none : length m / w - length m / w ≡ 0 = omega arith in
    record { shorter = omega arith; follows = rw (none, zero-mul w) refl }
