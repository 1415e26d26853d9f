-- Lemmas on whole blocks under a secret, each of which ends with a scramble.
use Rattle.std.proofs.Common.{◌≡◌, ℕ, zero, suc, ◌+◌, ◌-◌, ◌*◌, ◌%◌, ◌<◌, ◌≤◌, ◌==◌, Bool, true, false, List, take, drop, length, refl, sym, ap, ◌∙◌, arith, add-zero}
use Rattle.twox_core.proofs.Prelude.{StripeAccumulator, accumulate, nat_tests, round_scramble, stripe_at, stripes_of}
use Rattle.twox_core.specs.Stripes.{at_start, current_stripe_of, after_stripe, after_stripes}
use Rattle.twox_core.specs.Ending.{accumulate_block}
use Rattle.twox_core.proofs.PartFacts.{stripe_at-drop}
use Rattle.twox_core.proofs.StripeFacts.{after_stripes-take, after_stripes-more}

-- ---- stripes up to a position in the secret, and to its last one

before_end : (s a t : List ℕ) (k : ℕ) → k + 1 < stripes_of s
    → after_stripe s (record { accumulator = a; current_stripe = k }) t ≡ record { accumulator = accumulate a t (stripe_at s (8 * k)); current_stripe = k + 1 }
unfolding after_stripe
before_end s a t k h =
    let test : (k + 1 == stripes_of s) ≡ false = grind (arith, nat_tests) in
    rw test refl

at_end : (s a t : List ℕ) (k : ℕ) → k + 1 ≡ stripes_of s
    → after_stripe s (record { accumulator = a; current_stripe = k }) t ≡ at_start (round_scramble (accumulate a t (stripe_at s (8 * k))) (stripe_at s (length s - 64)))
unfolding after_stripe
at_end s a t k h =
    let test : (k + 1 == stripes_of s) ≡ true = grind (arith, nat_tests) in
    rw test refl

pub stripes_within : (s xs : List ℕ) (a : StripeAccumulator) (k : ℕ) → a.current_stripe + k < stripes_of s
    → after_stripes s a xs k ≡ record { accumulator = accumulate_block (drop (8 * a.current_stripe) s) a.accumulator xs k; current_stripe = a.current_stripe + k }
unfolding after_stripes accumulate_block
stripes_within s xs a zero h = rw (add-zero a.current_stripe) refl
stripes_within s xs a (suc k) h =
    let j = a.current_stripe in
    let next : j + k + 1 ≡ j + suc k = omega arith in
    ap (λ x. after_stripe s x (stripe_at xs (64 * k))) (stripes_within s xs a k (omega arith))
    ∙ before_end s (accumulate_block (drop (8 * j) s) a.accumulator xs k) (stripe_at xs (64 * k)) (j + k) (omega arith)
    ∙ rw (next, stripe_at-drop s (8 * j) (8 * k) (8 * (j + k)) (omega arith)) refl

pub stripes_to_end : (s xs : List ℕ) (a : StripeAccumulator) (k : ℕ) → a.current_stripe + suc k ≡ stripes_of s
    → after_stripes s a xs (suc k) ≡ at_start (round_scramble (accumulate_block (drop (8 * a.current_stripe) s) a.accumulator xs (suc k)) (stripe_at s (length s - 64)))
unfolding after_stripes accumulate_block
stripes_to_end s xs a k h =
    let j = a.current_stripe in
    ap (λ x. after_stripe s x (stripe_at xs (64 * k))) (stripes_within s xs a k (omega arith))
    ∙ at_end s (accumulate_block (drop (8 * j) s) a.accumulator xs k) (stripe_at xs (64 * k)) (j + k) (omega arith)
    ∙ rw (stripe_at-drop s (8 * j) (8 * k) (8 * (j + k)) (omega arith)) refl

pub stripes_to_block_end : (s xs : List ℕ) (a : StripeAccumulator) (k : ℕ) → stripes_of s ≡ 16 → a.current_stripe < 16 → a.current_stripe + k ≡ 16
    → after_stripes s a xs k ≡ at_start (round_scramble (accumulate_block (drop (8 * a.current_stripe) s) a.accumulator xs k) (stripe_at s (length s - 64)))
stripes_to_block_end s xs a zero all low h = absurd (omega arith)
stripes_to_block_end s xs a (suc k) all low h = stripes_to_end s xs a k (h ∙ sym all)

-- ---- the position in the secret

place_within : (s xs : List ℕ) (a : StripeAccumulator) (k : ℕ) → a.current_stripe + k < stripes_of s
    → (after_stripes s a xs k).current_stripe ≡ a.current_stripe + k
place_within s xs a k h = ap current_stripe_of (stripes_within s xs a k h)

-- Lemma: the position is 0 after the stripes to the end of a block.
place_at_end : (s xs : List ℕ) (a : StripeAccumulator) (k : ℕ) → 0 < k → a.current_stripe + k ≡ stripes_of s → (after_stripes s a xs k).current_stripe ≡ 0
place_at_end s xs a zero some h = absurd (omega arith)
place_at_end s xs a (suc k) some h = ap current_stripe_of (stripes_to_end s xs a k h)

place_in : (b : Bool) (s xs : List ℕ) (a : StripeAccumulator) (k : ℕ) → (a.current_stripe + k == 16) ≡ b → stripes_of s ≡ 16 → 0 < k
    → a.current_stripe + k ≤ 16 → (after_stripes s a xs k).current_stripe ≡ (a.current_stripe + k) % 16
place_in true s xs a k e all some fits =
    let full : a.current_stripe + k ≡ 16 = grind (arith, nat_tests, e) in
    place_at_end s xs a k some (full ∙ sym all) ∙ rw full refl
place_in false s xs a k e all some fits =
    let more : a.current_stripe + k < 16 = grind (arith, nat_tests, e, fits) in
    place_within s xs a k (rw all more) ∙ omega (arith, more)

pub place_after : (s xs : List ℕ) (a : StripeAccumulator) (k : ℕ) → stripes_of s ≡ 16 → 0 < k → a.current_stripe + k ≤ 16
    → (after_stripes s a xs k).current_stripe ≡ (a.current_stripe + k) % 16
place_after s xs a k all some fits = place_in (a.current_stripe + k == 16) s xs a k refl all some fits

-- Lemma: the position is 0 after the stripes to the next block, or none if a block begins there.
pub place_at_block : (s xs : List ℕ) (a : StripeAccumulator) (k : ℕ) → stripes_of s ≡ 16 → a.current_stripe < 16
    → k ≡ (16 - a.current_stripe) % 16 → (after_stripes s a xs k).current_stripe ≡ 0
unfolding after_stripes
place_at_block s xs a zero all low e = omega (arith, e)
place_at_block s xs a (suc k) all low e = place_at_end s xs a (suc k) (omega arith) (omega (arith, e, all))

-- Lemma: the position is a multiple of four after the stripes to the next multiple of four.
pub place_at_fourth : (s xs : List ℕ) (a : StripeAccumulator) (k : ℕ) → stripes_of s ≡ 16 → a.current_stripe < 16
    → k ≡ (16 - a.current_stripe) % 4 → (after_stripes s a xs k).current_stripe % 4 ≡ 0
unfolding after_stripes
place_at_fourth s xs a zero all low e = omega (arith, e)
place_at_fourth s xs a (suc k) all low e = omega (arith, e, place_after s xs a (suc k) all (omega arith) (omega (arith, e)))

pub at_start-same : (a : StripeAccumulator) → a.current_stripe ≡ 0 → at_start a.accumulator ≡ a
at_start-same a e = rw (sym e) refl

-- ---- blocks of 16 stripes

-- Lemma: block i, with its scramble, gives the accumulators after 16 * (i + 1) stripes of m.
pub next_block : (s a t b m : List ℕ) (i : ℕ) → stripes_of s ≡ 16 → at_start t ≡ after_stripes s (at_start a) m (16 * i)
    → b ≡ take 1024 (drop (i * 1024) m)
    → at_start (round_scramble (accumulate_block s t b 16) (stripe_at s (length s - 64))) ≡ after_stripes s (at_start a) m (16 * (i + 1))
next_block s a t b m i all before here =
    let place : i * 1024 ≡ 64 * (16 * i) = omega arith in
    let next : 16 * i + 16 ≡ 16 * (i + 1) = omega arith in
    sym (stripes_to_end s b (at_start t) 15 (omega (arith, all)))
    ∙ rw here (after_stripes-take s (at_start t) (drop (i * 1024) m) 1024 16 (omega arith))
    ∙ rw (sym before, sym place, next) at (after_stripes-more s (at_start a) m (16 * i) 16)
