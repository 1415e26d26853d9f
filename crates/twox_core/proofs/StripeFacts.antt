-- Lemmas on taking stripes one by one: they give the accumulators of the definition.
use Rattle.std.proofs.Common.{◌≡◌, ℕ, zero, suc, ◌+◌, ◌-◌, ◌*◌, ◌/◌, ◌%◌, ◌<◌, ◌≤◌, ◌==◌, Bool, true, false, List, [], ◌++◌, length, take, drop, refl, sym, ap, ap₂, ◌∙◌, arith, add-zero, add-one, length-drop}
use Rattle.twox_core.proofs.Prelude.{StripeAccumulator, append-nil, drop-append-le, drop-drop, eight, nat_tests, stripe_at, take-append-le, zero-mod}
use Rattle.std.proofs.lemmas.Nat.{div-add-mod', mod-mul-add, mod_below}
use Rattle.twox_core.specs.Long.{accumulate_one, scramble_one, accumulator_after, stripes_of}
use Rattle.twox_core.specs.Stripes.{sum_at_place, no_stripe, after_stripe, after_stripes, HasTaken}
use Rattle.twox_core.proofs.PartFacts.{stripe_at-take, stripe_at-drop}
use Rattle.twox_core.proofs.AccumulatorFacts.{accumulates, scrambles, same_accumulators, stripe_done, next_with, next_without, accumulator_after-append}

-- ---- stripes of a list of bytes

-- Lemma: one more stripe after k stripes of xs gives k + 1 stripes.
pub after_stripes-next : (s : List ℕ) (a : StripeAccumulator) (xs t : List ℕ) (k : ℕ) → t ≡ stripe_at xs (64 * k)
    → after_stripe s (after_stripes s a xs k) t ≡ after_stripes s a xs (k + 1)
unfolding after_stripes
after_stripes-next s a xs t k e = rw (e, add-one k) refl

-- Lemma: n stripes depend only on the first 64 * n bytes.
pub after_stripes-take : (s : List ℕ) (a : StripeAccumulator) (xs : List ℕ) (w n : ℕ) → 64 * n ≤ w → after_stripes s a (take w xs) n ≡ after_stripes s a xs n
unfolding after_stripes
after_stripes-take s a xs w zero fits = refl
after_stripes-take s a xs w (suc n) fits =
    ap₂ (after_stripe s) (after_stripes-take s a xs w n (omega arith)) (stripe_at-take xs w (64 * n) (omega arith))

-- Lemma: n stripes and then the next k stripes are n + k stripes.
pub after_stripes-more : (s : List ℕ) (a : StripeAccumulator) (xs : List ℕ) (n k : ℕ) → after_stripes s (after_stripes s a xs n) (drop (64 * n) xs) k ≡ after_stripes s a xs (n + k)
unfolding after_stripes
after_stripes-more s a xs n zero = rw (add-zero n) refl
after_stripes-more s a xs n (suc k) =
    let next : n + suc k ≡ suc (n + k) = omega arith in
    rw next (ap₂ (after_stripe s) (after_stripes-more s a xs n k) (stripe_at-drop xs (64 * n) (64 * k) (64 * (n + k)) (omega arith)))

-- Lemma: the next four stripes after 4 * i stripes of xs give 4 * (i + 1) stripes.
pub next_four : (s : List ℕ) (a t : StripeAccumulator) (f xs : List ℕ) (i : ℕ) → t ≡ after_stripes s a xs (4 * i) → f ≡ take 256 (drop (i * 256) xs)
    → after_stripes s t f 4 ≡ after_stripes s a xs (4 * (i + 1))
next_four s a t f xs i before here =
    let place : i * 256 ≡ 64 * (4 * i) = omega arith in
    let next : 4 * i + 4 ≡ 4 * (i + 1) = omega arith in
    rw here (after_stripes-take s t (drop (i * 256) xs) 256 4 (omega arith))
    ∙ rw (sym before, sym place, next) at (after_stripes-more s a xs (4 * i) 4)

-- Lemma: k stripes of xs, then the next n, and then the next j, are k + (n + j) stripes.
pub three_parts : (s xs : List ℕ) (a b t : StripeAccumulator) (k n j w : ℕ) → w ≡ 64 * n
    → b ≡ after_stripes s a xs k → t ≡ after_stripes s b (drop (64 * k) xs) n
    → after_stripes s t (drop w (drop (64 * k) xs)) j ≡ after_stripes s a xs (k + (n + j))
three_parts s xs a b t k n j w whole front next =
    rw (whole, next, front) (after_stripes-more s (after_stripes s a xs k) (drop (64 * k) xs) n j ∙ after_stripes-more s a xs k (n + j))

-- ---- one more stripe of m

place_on : (k q : ℕ) → k % q + 1 < q → (k + 1) % q ≡ k % q + 1
place_on k q h =
    let e : k + 1 ≡ k / q * q + (k % q + 1) = omega (arith, div-add-mod' k q) in
    ap (λ (n : ℕ). n % q) e ∙ mod-mul-add (k / q) q (k % q + 1) h

place_back : (k q : ℕ) → 0 < q → k % q + 1 ≡ q → (k + 1) % q ≡ 0
place_back k q some h =
    let e : k + 1 ≡ (k / q + 1) * q + 0 = omega (arith, div-add-mod' k q) in
    ap (λ (n : ℕ). n % q) e ∙ mod-mul-add (k / q + 1) q 0 some

taken_sums : (s m t : List ℕ) (k : ℕ) (a : StripeAccumulator) → HasTaken s m k a → t ≡ stripe_at m (64 * k) → sum_at_place s a t ≡ eight (stripe_done s m k)
taken_sums s m t k a held here =
    accumulates (λ i. accumulator_after s m i k) m s a.accumulator t _ (64 * k) (8 * a.current_stripe) held.accumulators here refl
    ∙ ap (λ (x : ℕ). eight (λ i. accumulate_one i (accumulator_after s m i k) m (64 * k) s (8 * x))) held.place

next_in : (b : Bool) (s m t : List ℕ) (k : ℕ) (a : StripeAccumulator) → (a.current_stripe + 1 == stripes_of s) ≡ b → 0 < stripes_of s
    → HasTaken s m k a → t ≡ stripe_at m (64 * k) → HasTaken s m (k + 1) (after_stripe s a t)
unfolding after_stripe
next_in true s m t k a e some held here =
    let full : k % stripes_of s + 1 ≡ stripes_of s = rw (sym held.place) (grind (arith, nat_tests, e)) in
    let back = place_back k (stripes_of s) some full in
    let test : ((k + 1) % stripes_of s == 0) ≡ true = grind (arith, nat_tests, back) in
    let sums = taken_sums s m t k a held here in
    rw e (record {
      accumulators =
          scrambles (stripe_done s m k) s (sum_at_place s a t) _ (length s - 64) sums refl
          ∙ same_accumulators (λ i. scramble_one i (stripe_done s m k i) s (length s - 64)) (λ i. accumulator_after s m i (k + 1)) (λ i _. next_with s m k test i);
      place = sym back;
    })
next_in false s m t k a e some held here =
    let low : k % stripes_of s < stripes_of s = mod_below k (stripes_of s) some in
    let more : k % stripes_of s + 1 < stripes_of s = rw (sym held.place) (grind (arith, nat_tests, e, rw (sym held.place) at low)) in
    let on = place_on k (stripes_of s) more in
    let test : ((k + 1) % stripes_of s == 0) ≡ false = grind (arith, nat_tests, on) in
    let sums = taken_sums s m t k a held here in
    rw e (record {
      accumulators = sums ∙ same_accumulators (stripe_done s m k) (λ i. accumulator_after s m i (k + 1)) (λ i _. next_without s m k test i);
      place = ap (λ (n : ℕ). n + 1) held.place ∙ sym on;
    })

folded_next : (s m t : List ℕ) (k : ℕ) (a : StripeAccumulator) → 0 < stripes_of s → HasTaken s m k a → t ≡ stripe_at m (64 * k) → HasTaken s m (k + 1) (after_stripe s a t)
folded_next s m t k a some held here = next_in (a.current_stripe + 1 == stripes_of s) s m t k a refl some held here

-- ---- n more stripes

folded_some : (s m xs : List ℕ) (k n : ℕ) (a : StripeAccumulator) → 0 < stripes_of s → HasTaken s m k a
    → ((j : ℕ) → j < n → stripe_at xs (64 * j) ≡ stripe_at m (64 * (k + j))) → HasTaken s m (k + n) (after_stripes s a xs n)
unfolding after_stripes
folded_some s m xs k zero a some held here = rw (add-zero k) held
folded_some s m xs k (suc n) a some held here =
    let next : k + n + 1 ≡ k + suc n = omega arith in
    rw next at (folded_next s m (stripe_at xs (64 * n)) (k + n) (after_stripes s a xs n) some (folded_some s m xs k n a some held (λ j low. here j (omega arith))) (here n (omega arith)))

-- Lemma: n stripes of xs, which follows the first k stripes of m, make k + n stripes taken.
pub folded_more : (s m xs ys : List ℕ) (k n : ℕ) (a : StripeAccumulator) → 0 < stripes_of s → HasTaken s m k a
    → drop (64 * k) m ≡ xs ++ ys → 64 * n ≤ length xs → HasTaken s m (k + n) (after_stripes s a xs n)
folded_more s m xs ys k n a some held split fits =
    folded_some s m xs k n a some held (λ j low.
    let place : 64 * (k + j) ≡ 64 * k + 64 * j = omega arith in
    let there : drop (64 * (k + j)) m ≡ drop (64 * j) xs ++ ys =
    rw place (sym (drop-drop (64 * j) (64 * k) m) ∙ ap (drop (64 * j)) split ∙ drop-append-le (64 * j) xs ys (omega arith)) in
    rw there (sym (take-append-le 64 (drop (64 * j) xs) ys (omega (arith, length-drop (64 * j) xs)))))

-- ---- from the start

pub folded_none : (s m : List ℕ) → HasTaken s m 0 no_stripe
unfolding accumulator_after
folded_none s m = record { accumulators = refl; place = sym (zero-mod (stripes_of s)) }

-- Lemma: the first n stripes of m, taken from the start, are n stripes taken.
pub folded_first : (s m : List ℕ) (n : ℕ) → 0 < stripes_of s → 64 * n ≤ length m → HasTaken s m n (after_stripes s no_stripe m n)
folded_first s m n some fits =
    let all : 0 + n ≡ n = omega arith in
    rw all at (folded_more s m m [] 0 n no_stripe some (folded_none s m) (sym (append-nil m)) fits)

-- Lemma: bytes appended to m don't change the stripes taken.
pub folded_longer : (s m d : List ℕ) (k : ℕ) (a : StripeAccumulator) → HasTaken s m k a → 64 * k ≤ length m → HasTaken s (m ++ d) k a
folded_longer s m d k a held fits = record {
  accumulators = held.accumulators ∙ same_accumulators (λ i. accumulator_after s m i k) (λ i. accumulator_after s (m ++ d) i k) (λ i h. sym (accumulator_after-append s m d i k h fits));
  place = held.place;
}
