-- Lemmas on finalization: the last block, the last 64 bytes and the merge give low_above_240 and high_above_240.
use Rattle.std.proofs.Common.{◌≡◌, ℕ, zero, suc, ◌+◌, ◌-◌, ◌*◌, ◌/◌, ◌%◌, ◌^◌, ◌<◌, ◌≤◌, ◌==◌, false, List, length, take, drop, slice_index, refl, sym, ap, ap₂, ◌∙◌, arith, lit<, add-zero, zero-add, add-one, length-drop}
use Rattle.twox_core.proofs.Prelude.{accumulate, counted, div-add-mod, div-div-eq-div-mul, drop-drop, eight, mod-mul-add, mod_below, nat_tests, stripe_at, take_all, w64, word_at-part}
use Rattle.twox_core.specs.Steps.{word64, sum_below}
use Rattle.twox_core.specs.Long.{accumulator_after, last_accumulator, stripes_of, pair_fold, merge_accumulators, low_above_240, high_above_240}
use Rattle.twox_core.specs.Ending.{accumulators_after, stripes_before, block_accumulators, last_block, stream_accumulators, stream_block, last_stripe, accumulate_block, final_accumulators, finalize_64, finalize_high, finalize_128}
use Rattle.twox_core.proofs.PartFacts.{stripe_at-take, stripe_at-drop}
use Rattle.twox_core.proofs.AccumulatorFacts.{accumulates, same_accumulators, stripe_done, next_without}

-- ---- stripes of a block

pub accumulate_block-next : (s a b t u : List ℕ) (k : ℕ) → t ≡ stripe_at b (64 * k) → u ≡ stripe_at s (8 * k)
    → accumulate (accumulate_block s a b k) t u ≡ accumulate_block s a b (k + 1)
unfolding accumulate_block
accumulate_block-next s a b t u k e f = rw (e, f, add-one k) refl

-- Lemma: n stripes read only 8 * n + 56 bytes of the secret and 64 * n bytes of the block.
accumulate_block-key : (s a b : List ℕ) (w n : ℕ) → 8 * n + 56 ≤ w → accumulate_block (take w s) a b n ≡ accumulate_block s a b n
unfolding accumulate_block
accumulate_block-key s a b w zero fits = refl
accumulate_block-key s a b w (suc n) fits =
    ap₂ (λ (x u : List ℕ). accumulate x (stripe_at b (64 * n)) u) (accumulate_block-key s a b w n (omega arith)) (stripe_at-take s w (8 * n) (omega arith))

accumulate_block-take : (s a b : List ℕ) (w n : ℕ) → 64 * n ≤ w → accumulate_block s a (take w b) n ≡ accumulate_block s a b n
unfolding accumulate_block
accumulate_block-take s a b w zero fits = refl
accumulate_block-take s a b w (suc n) fits =
    ap₂ (λ (x t : List ℕ). accumulate x t (stripe_at s (8 * n))) (accumulate_block-take s a b w n (omega arith)) (stripe_at-take b w (64 * n) (omega arith))

-- Lemma: k stripes and then the next n stripes are k + n stripes.
accumulate_block-more : (s a b : List ℕ) (k n : ℕ) → accumulate_block (drop (8 * k) s) (accumulate_block s a b k) (drop (64 * k) b) n ≡ accumulate_block s a b (k + n)
unfolding accumulate_block
accumulate_block-more s a b k zero = rw (add-zero k) refl
accumulate_block-more s a b k (suc n) =
    let next : k + suc n ≡ suc (k + n) = omega arith in
    let here : stripe_at (drop (64 * k) b) (64 * n) ≡ stripe_at b (64 * (k + n)) = stripe_at-drop b (64 * k) (64 * n) (64 * (k + n)) (omega arith) in
    let key : stripe_at (drop (8 * k) s) (8 * n) ≡ stripe_at s (8 * (k + n)) = stripe_at-drop s (8 * k) (8 * n) (8 * (k + n)) (omega arith) in
    rw (next, here, key) (ap (λ (x : List ℕ). accumulate x (stripe_at b (64 * (k + n))) (stripe_at s (8 * (k + n)))) (accumulate_block-more s a b k n))

-- Lemma: four stripes read only the first 88 bytes of the secret.
pub four_under_key : (s a b u : List ℕ) → u ≡ take 88 s → accumulate_block u a b 4 ≡ accumulate_block s a b 4
four_under_key s a b u e = rw e (accumulate_block-key s a b 88 4 (omega arith))

-- Lemma: the next four stripes after 4 * i stripes of a block give 4 * (i + 1) stripes.
pub accumulate_block-four : (s a b x t u : List ℕ) (i : ℕ) → x ≡ accumulate_block s a b (4 * i) → t ≡ take 256 (drop (256 * i) b) → u ≡ take 88 (drop (8 * (4 * i)) s)
    → accumulate_block u x t 4 ≡ accumulate_block s a b (4 * (i + 1))
accumulate_block-four s a b x t u i before here key =
    let place : 256 * i ≡ 64 * (4 * i) = omega arith in
    let next : 4 * i + 4 ≡ 4 * (i + 1) = omega arith in
    four_under_key (drop (8 * (4 * i)) s) x t u key
    ∙ rw (before, here, place)
    (accumulate_block-take (drop (8 * (4 * i)) s) (accumulate_block s a b (4 * i)) (drop (64 * (4 * i)) b) 256 4 (omega arith) ∙ accumulate_block-more s a b (4 * i) 4 ∙ ap (accumulate_block s a b) next)

-- ---- the accumulators of m after the first r stripes of block j

no_scramble : (j q r : ℕ) → r + 1 < q → ((q * j + r + 1) % q == 0) ≡ false
no_scramble j q r h =
    let e : q * j + r + 1 ≡ j * q + (r + 1) = omega arith in
    let left : (q * j + r + 1) % q ≡ r + 1 = ap (λ (n : ℕ). n % q) e ∙ mod-mul-add j q (r + 1) h in
    grind (arith, nat_tests, left)

block_more : (s m : List ℕ) (j r : ℕ) → r < stripes_of s
    → accumulate_block s (accumulators_after s m (stripes_of s * j)) (drop (64 * (stripes_of s * j)) m) r ≡ accumulators_after s m (stripes_of s * j + r)
unfolding accumulate_block accumulators_after
block_more s m j zero h = rw (add-zero (stripes_of s * j)) refl
block_more s m j (suc r) h =
    let q = stripes_of s in
    let k = q * j + r in
    let flat : q * j + r ≡ j * q + r = omega arith in
    let left : k % q ≡ r = ap (λ (n : ℕ). n % q) flat ∙ mod-mul-add j q r (omega arith) in
    let here : stripe_at (drop (64 * (q * j)) m) (64 * r) ≡ stripe_at m (64 * k) =
    let place : 64 * (q * j) + 64 * r ≡ 64 * k = omega arith in
    ap (take 64) (drop-drop (64 * r) (64 * (q * j)) m ∙ ap (λ (n : ℕ). drop n m) place) in
    let key : stripe_at s (8 * r) ≡ stripe_at s (8 * (k % q)) = ap (λ (n : ℕ). stripe_at s (8 * n)) (sym left) in
    let next : k + 1 ≡ q * j + suc r = omega arith in
    accumulates (λ i. accumulator_after s m i k) m s _ _ _ (64 * k) (8 * (k % q)) (block_more s m j r (omega arith)) here key
    ∙ same_accumulators (stripe_done s m k) (λ i. accumulator_after s m i (k + 1)) (λ i _. next_without s m k (no_scramble j q r (omega arith)) i)
    ∙ ap (λ (n : ℕ). eight (λ i. accumulator_after s m i n)) next

-- Lemma: the stripes before the last block, plus those in it before the last stripe, are (length m - 1) / 64.
last_places : (s m : List ℕ) → stripes_before s m + (length m - 1) / 64 % stripes_of s ≡ (length m - 1) / 64
last_places s m =
    let q = stripes_of s in
    ap (λ (n : ℕ). q * n + (length m - 1) / 64 % q) (sym (div-div-eq-div-mul (length m - 1) 64 q)) ∙ div-add-mod ((length m - 1) / 64) q

-- ---- the accumulators of m after its last 64 bytes

accumulators_ended : (s m a b : List ℕ) → 64 ≤ length m → accumulate_block s a b ((length b - 1) / 64) ≡ accumulators_after s m ((length m - 1) / 64)
    → final_accumulators a b (last_stripe m) s ≡ eight (last_accumulator s m)
unfolding final_accumulators accumulators_after last_stripe last_accumulator
accumulators_ended s m a b long e =
    let end : drop (length m - 64) m ≡ stripe_at m (length m - 64) = sym (take_all 64 (drop (length m - 64) m) (omega (arith, length-drop (length m - 64) m))) in
    accumulates (λ i. accumulator_after s m i ((length m - 1) / 64)) m s _ _ _ (length m - 64) (length s - 71) e end refl

block_ended : (s m : List ℕ) → 0 < stripes_of s → 64 ≤ length m → final_accumulators (block_accumulators s m) (last_block s m) (last_stripe m) s ≡ eight (last_accumulator s m)
unfolding block_accumulators last_block
block_ended s m some long =
    let q = stripes_of s in
    let k = stripes_before s m in
    let r = (length m - 1) / 64 % q in
    let all = last_places s m in
    let count : (length (drop (64 * k) m) - 1) / 64 ≡ r = omega (arith, length-drop (64 * k) m) in
    accumulators_ended s m _ _ long (rw count (block_more s m ((length m - 1) / (64 * q)) r (mod_below ((length m - 1) / 64) q some)) ∙ ap (accumulators_after s m) all)

-- Lemma: finalization adds only the last 64 bytes of m if the block b has at most one stripe.
none_left : (s m b : List ℕ) → 64 ≤ length m → (length b - 1) / 64 ≡ 0 → final_accumulators (stream_accumulators s m) b (last_stripe m) s ≡ eight (last_accumulator s m)
unfolding stream_accumulators accumulate_block
none_left s m b long count = accumulators_ended s m _ b long (rw count refl)

stripe_ended : (s m : List ℕ) → 64 ≤ length m → final_accumulators (stream_accumulators s m) (stream_block m) (last_stripe m) s ≡ eight (last_accumulator s m)
unfolding stream_block
stripe_ended s m long = none_left s m (stream_block m) long (omega (arith, length-drop (64 * ((length m - 1) / 64)) m))

taken_ended : (s m : List ℕ) → 64 ≤ length m → final_accumulators (stream_accumulators s m) (last_stripe m) (last_stripe m) s ≡ eight (last_accumulator s m)
unfolding last_stripe
taken_ended s m long = none_left s m (last_stripe m) long (omega (arith, length-drop (length m - 64) m))

-- ---- the values

merge_accumulators-eight : (init : ℕ) (s a : List ℕ) (j : ℕ) (f : ℕ → ℕ) → a ≡ eight f → merge_accumulators init s j (slice_index a) ≡ merge_accumulators init s j f
unfolding merge_accumulators sum_below pair_fold
merge_accumulators-eight init s a j f e = rw e refl

-- Lemma: pair_fold reads only the 64 bytes of the secret at offset j.
pair_fold-stripe : (f : ℕ → ℕ) (s : List ℕ) (j i : ℕ) → i < 4 → pair_fold f (stripe_at s j) 0 i ≡ pair_fold f s j i
unfolding pair_fold
pair_fold-stripe f s j i h =
    let first : word64 (stripe_at s j) (0 + 16 * i) ≡ word64 s (j + 16 * i) = ap (word64 (stripe_at s j)) (zero-add (16 * i)) ∙ word_at-part w64 64 s (stripe_at s j) j (16 * i) refl (omega arith) in
    let second : word64 (stripe_at s j) (0 + 16 * i + 8) ≡ word64 s (j + 16 * i + 8) =
    let place : 0 + 16 * i + 8 ≡ 16 * i + 8 = omega arith in
    ap (word64 (stripe_at s j)) place ∙ word_at-part w64 64 s (stripe_at s j) j (16 * i + 8) refl (omega arith) ∙ ap (word64 s) (omega arith) in
    rw (first, second) refl

pub merge_accumulators-stripe : (init : ℕ) (s u : List ℕ) (j : ℕ) (f : ℕ → ℕ) → u ≡ stripe_at s j → merge_accumulators init u 0 f ≡ merge_accumulators init s j f
unfolding merge_accumulators sum_below
merge_accumulators-stripe init s u j f e =
    rw (e, pair_fold-stripe f s j 0 (lit< tt), pair_fold-stripe f s j 1 (lit< tt), pair_fold-stripe f s j 2 (lit< tt), pair_fold-stripe f s j 3 (lit< tt)) refl

low_of : (s m a b : List ℕ) (n : ℕ) → final_accumulators a b (last_stripe m) s ≡ eight (last_accumulator s m) → n ≡ counted (length m)
    → finalize_64 a b (last_stripe m) s n ≡ low_above_240 s m
unfolding finalize_64 low_above_240
low_of s m a b n accumulators count = rw count (merge_accumulators-eight _ s _ 11 (last_accumulator s m) accumulators)

high_of : (s m a b : List ℕ) (n : ℕ) → final_accumulators a b (last_stripe m) s ≡ eight (last_accumulator s m) → n ≡ counted (length m)
    → finalize_high a b (last_stripe m) s n ≡ high_above_240 s m
unfolding finalize_high high_above_240
high_of s m a b n accumulators count = rw count (merge_accumulators-eight _ s _ (length s - 75) (last_accumulator s m) accumulators)

-- Lemma: finalization from the accumulators before the last block gives low_above_240.
pub block_low : (s m : List ℕ) → 0 < stripes_of s → 64 ≤ length m → length m < 2 ^ 64
    → finalize_64 (block_accumulators s m) (last_block s m) (last_stripe m) s (length m) ≡ low_above_240 s m
block_low s m some long low = low_of s m _ _ (length m) (block_ended s m some long) (omega arith)

pub block_both : (s m : List ℕ) → 0 < stripes_of s → 64 ≤ length m → length m < 2 ^ 64
    → finalize_128 (block_accumulators s m) (last_block s m) (last_stripe m) s (length m) ≡ high_above_240 s m * 2 ^ 64 + low_above_240 s m
unfolding finalize_128
block_both s m some long low =
    ap₂ (λ (x y : ℕ). x * 2 ^ 64 + y) (high_of s m _ _ (length m) (block_ended s m some long) (omega arith)) (block_low s m some long low)

-- Lemma: finalization of a stream, which has taken all stripes except the last, gives low_above_240.
pub stream_low : (s m : List ℕ) → 64 ≤ length m
    → finalize_64 (stream_accumulators s m) (stream_block m) (last_stripe m) s (counted (length m)) ≡ low_above_240 s m
stream_low s m long = low_of s m _ _ (counted (length m)) (stripe_ended s m long) refl

pub stream_both : (s m : List ℕ) → 64 ≤ length m
    → finalize_128 (stream_accumulators s m) (stream_block m) (last_stripe m) s (counted (length m)) ≡ high_above_240 s m * 2 ^ 64 + low_above_240 s m
unfolding finalize_128
stream_both s m long =
    ap₂ (λ (x y : ℕ). x * 2 ^ 64 + y) (high_of s m _ _ (counted (length m)) (stripe_ended s m long) refl) (stream_low s m long)

-- Lemma: finalization of a one-shot that has taken all stripes except the last gives low_above_240.
pub taken_low : (s m : List ℕ) → 64 ≤ length m → length m < 2 ^ 64
    → finalize_64 (stream_accumulators s m) (last_stripe m) (last_stripe m) s (length m) ≡ low_above_240 s m
taken_low s m long low = low_of s m _ _ (length m) (taken_ended s m long) (omega arith)

pub taken_both : (s m : List ℕ) → 64 ≤ length m → length m < 2 ^ 64
    → finalize_128 (stream_accumulators s m) (last_stripe m) (last_stripe m) s (length m) ≡ high_above_240 s m * 2 ^ 64 + low_above_240 s m
unfolding finalize_128
taken_both s m long low =
    ap₂ (λ (x y : ℕ). x * 2 ^ 64 + y) (high_of s m _ _ (length m) (taken_ended s m long) (omega arith)) (taken_low s m long low)

pub ruleset merge_laws = merge_accumulators-stripe
