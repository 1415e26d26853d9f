-- Lemmas on deriving a secret in place: the derived pairs of words overwrite the pairs that they are derived from.
use Rattle.std.proofs.Common.{◌≡◌, ℕ, zero, suc, ◌+◌, ◌*◌, ◌%◌, ◌^◌, ◌<◌, ◌≤◌, List, ◌++◌, length, take, drop, get_or, Fits, w8, length-take-le, length-drop, sym, ap, ap₂, refl, ◌∙◌, arith, append_assoc, length-append, add-zero, add-one}
use lib.Lanes.{number_l, digits_l, put_chunk}
use Rattle.twox_core.proofs.Prelude.{add64, drop-drop, drop_at, put_chunk_whole, sub64, take-take, take_at, to_le_bytes, w64, word64, word_at-append_right, word_at-drop}
use borrow.Rule.Slice.PartMut.{put_mid}
use Rattle.twox_core.specs.Secret.{derived_pairs}
use Rattle.twox_core.proofs.VectorBytes.{low_bytes, four_words_bytes}
use Rattle.twox_core.proofs.VectorWords.{word_of_vector}

-- Lemma: writing f after the a elements of `done` replaces the first k elements of the rest.
pub put_next : (a k : ℕ) (done rest f : List ℕ) → length done ≡ a → put_mid a k (done ++ rest) f ≡ (done ++ f) ++ drop k rest
put_next a k done rest f len =
    ap₂ (λ (x y : List ℕ). x ++ (f ++ drop k y)) (take_at done rest a len) (drop_at done rest a len) ∙ sym (append_assoc done f (drop k rest))

-- Lemma: replacing the first a bytes of m doesn't change the word at offset a + j.
pub word_after : (done m : List ℕ) (a j : ℕ) → length done ≡ a → word64 (done ++ drop a m) (a + j) ≡ word64 m (a + j)
word_after done m a j len =
    ap (λ (i : ℕ). word64 (done ++ drop a m) (i + j)) (sym len) ∙ word_at-append_right w64 done (drop a m) j ∙ word_at-drop w64 a m j

-- The pair of words at offset i of l, with the seed added to the first and subtracted from the second.
abbrev pub changed_pair : ℕ → List ℕ → ℕ → List ℕ
changed_pair seed l i = to_le_bytes w64 (add64 (word64 l i) seed) ++ to_le_bytes w64 (sub64 (word64 l (i + 8)) seed)

-- Lemma: replacing the first a bytes of m doesn't change the changed pair at offset a + j.
changed_pair_after : (seed : ℕ) (done m : List ℕ) (a j : ℕ) → length done ≡ a → changed_pair seed (done ++ drop a m) (a + j) ≡ changed_pair seed m (a + j)
changed_pair_after seed done m a j len =
    let place : a + j + 8 ≡ a + (j + 8) = omega arith in
    let second : word64 (done ++ drop a m) (a + j + 8) ≡ word64 m (a + j + 8) =
    ap (word64 (done ++ drop a m)) place ∙ word_after done m a (j + 8) len ∙ ap (word64 m) (sym place) in
    ap₂ (λ (x y : ℕ). to_le_bytes w64 (add64 x seed) ++ to_le_bytes w64 (sub64 y seed)) (word_after done m a j len) second

derived_pairs-next : (seed : ℕ) (s : List ℕ) (k : ℕ) → derived_pairs seed s (k + 1) ≡ derived_pairs seed s k ++ changed_pair seed s (16 * k)
unfolding derived_pairs
derived_pairs-next seed s k =
    ap (derived_pairs seed s) (add-one k)
    ∙ append_assoc (derived_pairs seed s k) (to_le_bytes w64 (add64 (word64 s (16 * k)) seed)) (to_le_bytes w64 (sub64 (word64 s (16 * k + 8)) seed))

pub derived_pairs-length : (seed : ℕ) (s : List ℕ) (k : ℕ) → length (derived_pairs seed s k) ≡ 16 * k
unfolding derived_pairs
derived_pairs-length seed s zero = refl
derived_pairs-length seed s (suc k) =
    let before = derived_pairs-length seed s k in
    let f = to_le_bytes w64 (add64 (word64 s (16 * k)) seed) in
    let g = to_le_bytes w64 (sub64 (word64 s (16 * k + 8)) seed) in
    let fl : length f ≡ 8 = refl in
    let gl : length g ≡ 8 = refl in
    omega (arith, length-append (derived_pairs seed s k ++ f) g, length-append (derived_pairs seed s k) f)

-- Lemma: the first 2 * (k + 1) derived pairs are the first 2 * k pairs and the two at offset 32 * k.
derived_pairs-next_two : (seed : ℕ) (s : List ℕ) (k : ℕ) → derived_pairs seed s (2 * (k + 1))
    ≡ derived_pairs seed s (2 * k) ++ (changed_pair seed s (32 * k) ++ changed_pair seed s (32 * k + 16))
derived_pairs-next_two seed s k =
    let count : 2 * (k + 1) ≡ 2 * k + 1 + 1 = omega arith in
    let first : 16 * (2 * k) ≡ 32 * k = omega arith in
    let second : 16 * (2 * k + 1) ≡ 32 * k + 16 = omega arith in
    ap (derived_pairs seed s) count
    ∙ derived_pairs-next seed s (2 * k + 1)
    ∙ ap₂ (λ (l : List ℕ) (i : ℕ). l ++ changed_pair seed s i) (derived_pairs-next seed s (2 * k)) second
    ∙ ap (λ (i : ℕ). (derived_pairs seed s (2 * k) ++ changed_pair seed s i) ++ changed_pair seed s (32 * k + 16)) first
    ∙ append_assoc (derived_pairs seed s (2 * k)) (changed_pair seed s (32 * k)) (changed_pair seed s (32 * k + 16))

-- Lemma: writing the next two derived pairs over the old ones gives 2 * (k + 1) derived pairs.
two_pairs_written : (seed : ℕ) (s cur : List ℕ) (k n : ℕ) (f : List ℕ) → n ≡ 32 → cur ≡ derived_pairs seed s (2 * k) ++ drop (32 * k) s
    → f ≡ changed_pair seed cur (32 * k) ++ changed_pair seed cur (32 * k + 16)
    → put_mid (32 * k) n cur f ≡ derived_pairs seed s (2 * (k + 1)) ++ drop (32 * (k + 1)) s
two_pairs_written seed s cur k n f en ecur ef =
    let done = derived_pairs seed s (2 * k) in
    let len : length done ≡ 32 * k = omega (arith, derived_pairs-length seed s (2 * k)) in
    let none : 32 * k ≡ 32 * k + 0 = sym (add-zero (32 * k)) in
    let first : changed_pair seed cur (32 * k) ≡ changed_pair seed s (32 * k) =
    ap₂ (changed_pair seed) ecur none ∙ changed_pair_after seed done s (32 * k) 0 len ∙ ap (changed_pair seed s) (sym none) in
    let second : changed_pair seed cur (32 * k + 16) ≡ changed_pair seed s (32 * k + 16) =
    ap (λ (l : List ℕ). changed_pair seed l (32 * k + 16)) ecur ∙ changed_pair_after seed done s (32 * k) 16 len in
    let place : 32 * k + 32 ≡ 32 * (k + 1) = omega arith in
    ap₂ (λ (a : ℕ) (l : List ℕ). put_mid (32 * k) a l f) en ecur
    ∙ put_next (32 * k) 32 done (drop (32 * k) s) f len
    ∙ ap₂ (λ (x y : List ℕ). x ++ y)
    (ap (λ (x : List ℕ). done ++ x) (ef ∙ ap₂ (λ (x y : List ℕ). x ++ y) first second) ∙ sym (derived_pairs-next_two seed s k))
    (drop-drop 32 (32 * k) s ∙ ap (λ (a : ℕ). drop a s) place)

-- The 32 bytes l as four words, with the seed added to the first and the third, and `loss` to the others.
abbrev changed_bytes : ℕ → ℕ → List ℕ → List ℕ
changed_bytes seed loss l =
    let word : ℕ → ℕ = λ j. get_or (digits_l (2 ^ 64) 4 (number_l 256 l)) j 0 in
    low_bytes 32 (add64 (word 0) seed + 2 ^ 64 * (add64 (word 1) loss + 2 ^ 64 * (add64 (word 2) seed + 2 ^ 64 * (add64 (word 3) loss + 2 ^ 64 * 0))))

changed_pair_of : (seed loss : ℕ) (cur : List ℕ) (i a b : ℕ) → seed < 2 ^ 64 → loss < 2 ^ 64 → (loss + seed) % 2 ^ 64 ≡ 0 → a ≡ word64 cur i → b ≡ word64 cur (i + 8)
    → to_le_bytes w64 (add64 a seed) ++ to_le_bytes w64 (add64 b loss) ≡ changed_pair seed cur i
changed_pair_of seed loss cur i a b small small-loss none ea eb =
    let minus : add64 b loss ≡ sub64 b seed = omega (arith, none) in
    ap (λ (y : ℕ). to_le_bytes w64 (add64 a seed) ++ to_le_bytes w64 y) minus
    ∙ ap₂ (λ (x y : ℕ). to_le_bytes w64 (add64 x seed) ++ to_le_bytes w64 (sub64 y seed)) ea eb

-- Lemma: two pairs read as one vector, changed, and written over the old ones are the next derived pairs.
pub two_pairs_changed : (seed loss : ℕ) (s cur : List ℕ) (k n : ℕ) → n ≡ 32 → ((i : ℕ) → Fits w8 (get_or cur i 0)) → 32 * k + 32 ≤ length cur
    → seed < 2 ^ 64 → loss < 2 ^ 64 → (loss + seed) % 2 ^ 64 ≡ 0 → cur ≡ derived_pairs seed s (2 * k) ++ drop (32 * k) s
    → put_mid (32 * k) n cur (put_chunk 0 (take n (drop (32 * k) cur)) (changed_bytes seed loss (take 32 (take n (drop (32 * k) cur)))))
    ≡ derived_pairs seed s (2 * (k + 1)) ++ drop (32 * (k + 1)) s
two_pairs_changed seed loss s cur k n en bytes fits small small-loss none ecur =
    let part = take n (drop (32 * k) cur) in
    let changed = changed_bytes seed loss (take 32 part) in
    let word : ℕ → ℕ = λ j. get_or (digits_l (2 ^ 64) 4 (number_l 256 (take 32 part))) j 0 in
    let all : take 32 part ≡ take 32 (drop (32 * k) cur) = ap (λ (i : ℕ). take 32 (take i (drop (32 * k) cur))) en ∙ take-take 32 32 (drop (32 * k) cur) (omega arith) in
    let is_word : (j i : ℕ) → j < 4 → 32 * k + 8 * j ≡ i → word j ≡ word64 cur i =
    λ j i low place. ap (λ (l : List ℕ). get_or (digits_l (2 ^ 64) 4 (number_l 256 l)) j 0) all ∙ word_of_vector 4 cur (32 * k) j bytes fits low ∙ ap (word64 cur) place in
    let first = changed_pair_of seed loss cur (32 * k) (word 0) (word 1) small small-loss none (is_word 0 (32 * k) (omega arith) (omega arith)) (is_word 1 (32 * k + 8) (omega arith) (omega arith)) in
    let second = changed_pair_of seed loss cur (32 * k + 16) (word 2) (word 3) small small-loss none (is_word 2 (32 * k + 16) (omega arith) (omega arith)) (is_word 3 (32 * k + 16 + 8) (omega arith) (omega arith)) in
    let long : length part ≡ 32 = length-take-le n (drop (32 * k) cur) (omega (arith, length-drop (32 * k) cur)) ∙ en in
    ap (put_mid (32 * k) n cur) (put_chunk_whole part changed long)
    ∙ two_pairs_written seed s cur k n changed en ecur
    (four_words_bytes (add64 (word 0) seed) (add64 (word 1) loss) (add64 (word 2) seed) (add64 (word 3) loss) (omega arith) (omega arith) (omega arith) (omega arith)
    ∙ ap₂ (λ (x y : List ℕ). x ++ y) first second)
