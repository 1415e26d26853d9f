-- Lemmas on mixing steps over consecutive parts of a list.
use Rattle.twox_core.proofs.Prelude.{◌*◌, ◌+◌, ◌-◌, ◌<◌, ◌∙◌, ◌≡◌, List, add-one, add-zero, ap, arith, bit_xor, chunk_at, length, lit≤, refl, suc, w64, word_at-part, ℕ}
use Rattle.twox_core.specs.Steps.{word64, add64, mix, sum_below}
use Rattle.twox_core.specs.Middle.{accumulator_step, first_17_to_128, second_17_to_128, pairs_first, pairs_second}

-- Lemma: the sum of n + 1 terms is the sum of n terms plus term n.
pub sum_below-next : (f : ℕ → ℕ) (n : ℕ) → sum_below f (n + 1) ≡ sum_below f n + f n
unfolding sum_below
sum_below-next f n = rw add-one refl

-- Lemma: the two words of the chunk at offset i are the words of m at offsets i and i + 8.
pub chunk-first : (m c : List ℕ) (i : ℕ) → c ≡ chunk_at m i → word64 c 0 ≡ word64 m i
chunk-first m c i e = word_at-part w64 16 m c i 0 e (lit≤ tt) ∙ ap (word64 m) (add-zero i)

pub chunk-second : (m c : List ℕ) (i : ℕ) → c ≡ chunk_at m i → word64 c 8 ≡ word64 m (i + 8)
chunk-second m c i e = word_at-part w64 16 m c i 8 e (lit≤ tt)

-- Lemma: a mix of the chunks c and k is the mix of m at offset i with s at offset j.
pub mix-of_chunks : (m s c k : List ℕ) (i j seed : ℕ) → c ≡ chunk_at m i → k ≡ chunk_at s j → mix c 0 k 0 seed ≡ mix m i s j seed
unfolding mix
mix-of_chunks m s c k i j seed e f =
    rw (chunk-first m c i e, chunk-second m c i e, chunk-first s k j f, chunk-second s k j f) refl

-- Lemma: an accumulator's step on the chunks c, k and d is the step on m and s at their offsets.
pub accumulator_step-of_chunks : (seed : ℕ) (s m : List ℕ) (a b : ℕ) (c k d : List ℕ) (i j l : ℕ) → b ≡ a
    → c ≡ chunk_at m i → k ≡ chunk_at s j → d ≡ chunk_at m l
    → bit_xor (add64 b (mix c 0 k 0 seed)) (add64 (word64 d 0) (word64 d 8)) ≡ accumulator_step seed s m a i j l
unfolding accumulator_step
accumulator_step-of_chunks seed s m a b c k d i j l same e f g =
    rw (same, mix-of_chunks m s c k i j seed e f, chunk-first m d l g, chunk-second m d l g) refl

-- Lemma: step n - c of each accumulator takes the chunks at offsets 16 * c and length m - 16 * (c + 1).
pub first_17_to_128-chunk : (seed : ℕ) (s m : List ℕ) (n c : ℕ) → c < n → first_17_to_128 seed s m n (n - c)
    ≡ accumulator_step seed s m (first_17_to_128 seed s m n (n - 1 - c)) (16 * c) (32 * c) (length m - 16 * (c + 1))
unfolding first_17_to_128
first_17_to_128-chunk seed s m n c low =
    let t = n - 1 - c in
    let next : n - c ≡ suc t = omega arith in
    let chunk : n - 1 - t ≡ c = omega arith in
    ap (first_17_to_128 seed s m n) next ∙ ap (λ (k : ℕ). accumulator_step seed s m (first_17_to_128 seed s m n t) (16 * k) (32 * k) (length m - 16 * (k + 1))) chunk

pub second_17_to_128-chunk : (seed : ℕ) (s m : List ℕ) (n c : ℕ) → c < n → second_17_to_128 seed s m n (n - c)
    ≡ accumulator_step seed s m (second_17_to_128 seed s m n (n - 1 - c)) (length m - 16 * (c + 1)) (32 * c + 16) (16 * c)
unfolding second_17_to_128
second_17_to_128-chunk seed s m n c low =
    let t = n - 1 - c in
    let next : n - c ≡ suc t = omega arith in
    let chunk : n - 1 - t ≡ c = omega arith in
    ap (second_17_to_128 seed s m n) next ∙ ap (λ (k : ℕ). accumulator_step seed s m (second_17_to_128 seed s m n t) (length m - 16 * (k + 1)) (32 * k + 16) (16 * k)) chunk

-- Lemma: t + 1 steps of each accumulator over pairs are t steps and a step with pair t.
pub pairs_first-next : (seed : ℕ) (s m : List ℕ) (i j a t : ℕ) → pairs_first seed s m i j a (t + 1)
    ≡ accumulator_step seed s m (pairs_first seed s m i j a t) (i + 32 * t) (j + 32 * t) (i + 32 * t + 16)
unfolding pairs_first
pairs_first-next seed s m i j a t = rw (add-one t) refl

pub pairs_second-next : (seed : ℕ) (s m : List ℕ) (i j a t : ℕ) → pairs_second seed s m i j a (t + 1)
    ≡ accumulator_step seed s m (pairs_second seed s m i j a t) (i + 32 * t + 16) (j + 32 * t + 16) (i + 32 * t)
unfolding pairs_second
pairs_second-next seed s m i j a t = rw (add-one t) refl

-- Lemma: a mix with the chunk k of the secret is the mix with s at offset j.
pub mix-of_key : (m s k : List ℕ) (i j seed : ℕ) → k ≡ chunk_at s j → mix m i k 0 seed ≡ mix m i s j seed
unfolding mix
mix-of_key m s k i j seed f = rw (chunk-first s k j f, chunk-second s k j f) refl
