-- Lemmas on the kernel's two calls on eight accumulators, and on one more stripe of each accumulator.
use Rattle.std.proofs.Common.{◌≡◌, ℕ, zero, suc, ◌+◌, ◌-◌, ◌*◌, ◌%◌, ◌<◌, ◌≤◌, ◌==◌, if◌then◌else◌, true, false, List, ◌++◌, length, slice_index, bit_xor, refl, sym, ap, ◌∙◌, arith, lit<, zero-add, add-one}
use Rattle.twox_core.proofs.Prelude.{accumulate, eight, round_scramble, stripe_at, w64, word64, word_at-append, word_at-part, xor_lt}
use Rattle.twox_core.specs.Long.{accumulate_one, scramble_one, accumulator_after, stripes_of}

-- Lemma: functions that agree below 8 give the same eight accumulators.
pub same_accumulators : (f g : ℕ → ℕ) → ((i : ℕ) → i < 8 → f i ≡ g i) → eight f ≡ eight g
same_accumulators f g same =
    rw (same 0 (lit< tt), same 1 (lit< tt), same 2 (lit< tt), same 3 (lit< tt), same 4 (lit< tt), same 5 (lit< tt), same 6 (lit< tt), same 7 (lit< tt)) refl

accumulator_of : (f : ℕ → ℕ) (i : ℕ) → i < 8 → slice_index (eight f) i ≡ f i
accumulator_of f zero h = refl
accumulator_of f (suc zero) h = refl
accumulator_of f (suc (suc zero)) h = refl
accumulator_of f (suc (suc (suc zero))) h = refl
accumulator_of f (suc (suc (suc (suc zero)))) h = refl
accumulator_of f (suc (suc (suc (suc (suc zero))))) h = refl
accumulator_of f (suc (suc (suc (suc (suc (suc zero)))))) h = refl
accumulator_of f (suc (suc (suc (suc (suc (suc (suc zero))))))) h = refl
accumulator_of f (suc (suc (suc (suc (suc (suc (suc (suc n)))))))) h = absurd (omega arith)

neighbour_below : (i : ℕ) → i < 8 → bit_xor i 1 < 8
neighbour_below i h = xor_lt 3 i 1 h (lit< tt)

-- ---- one accumulator with a stripe as a separate list, or with bytes after its stripe

word-stripe : (m : List ℕ) (p i : ℕ) → i < 8 → word64 (stripe_at m p) (0 + 8 * i) ≡ word64 m (p + 8 * i)
word-stripe m p i h = ap (word64 (stripe_at m p)) (zero-add (8 * i)) ∙ word_at-part w64 64 m (stripe_at m p) p (8 * i) refl (omega arith)

accumulate_one-stripe : (i a : ℕ) (m s : List ℕ) (p j : ℕ) → i < 8 → accumulate_one i a (stripe_at m p) 0 (stripe_at s j) 0 ≡ accumulate_one i a m p s j
unfolding accumulate_one
accumulate_one-stripe i a m s p j h =
    rw (word-stripe m p i h, word-stripe m p (bit_xor i 1) (neighbour_below i h), word-stripe s j i h) refl

scramble_one-stripe : (i a : ℕ) (s : List ℕ) (j : ℕ) → i < 8 → scramble_one i a (stripe_at s j) 0 ≡ scramble_one i a s j
unfolding scramble_one
scramble_one-stripe i a s j h = rw (word-stripe s j i h) refl

accumulate_one-append : (i a : ℕ) (m d s : List ℕ) (p j : ℕ) → i < 8 → p + 64 ≤ length m → accumulate_one i a (m ++ d) p s j ≡ accumulate_one i a m p s j
unfolding accumulate_one
accumulate_one-append i a m d s p j h fits =
    let below = neighbour_below i h in
    rw (word_at-append w64 m d (p + 8 * i) (omega arith), word_at-append w64 m d (p + 8 * bit_xor i 1) (omega arith)) refl

-- ---- the kernel's calls on the accumulators f

pub accumulates : (f : ℕ → ℕ) (m s a t u : List ℕ) (p j : ℕ) → a ≡ eight f → t ≡ stripe_at m p → u ≡ stripe_at s j
    → accumulate a t u ≡ eight (λ i. accumulate_one i (f i) m p s j)
accumulates f m s a t u p j accumulators here key =
    rw (accumulators, here, key) (same_accumulators (λ i. accumulate_one i (slice_index (eight f) i) (stripe_at m p) 0 (stripe_at s j) 0) (λ i. accumulate_one i (f i) m p s j)
    (λ i h. ap (λ x. accumulate_one i x (stripe_at m p) 0 (stripe_at s j) 0) (accumulator_of f i h) ∙ accumulate_one-stripe i (f i) m s p j h))

pub scrambles : (f : ℕ → ℕ) (s a u : List ℕ) (j : ℕ) → a ≡ eight f → u ≡ stripe_at s j
    → round_scramble a u ≡ eight (λ i. scramble_one i (f i) s j)
scrambles f s a u j accumulators key =
    rw (accumulators, key) (same_accumulators (λ i. scramble_one i (slice_index (eight f) i) (stripe_at s j) 0) (λ i. scramble_one i (f i) s j)
    (λ i h. ap (λ x. scramble_one i x (stripe_at s j) 0) (accumulator_of f i h) ∙ scramble_one-stripe i (f i) s j h))

-- ---- one more stripe

abbrev pub stripe_done : List ℕ → List ℕ → ℕ → ℕ → ℕ
stripe_done s m k i = accumulate_one i (accumulator_after s m i k) m (64 * k) s (8 * (k % stripes_of s))

accumulator_after-next : (s m : List ℕ) (k i : ℕ) → accumulator_after s m i (k + 1)
    ≡ (if (k + 1) % stripes_of s == 0 then scramble_one i (stripe_done s m k i) s (length s - 64) else stripe_done s m k i)
unfolding accumulator_after
accumulator_after-next s m k i = ap (accumulator_after s m i) (add-one k)

pub next_with : (s m : List ℕ) (k : ℕ) → ((k + 1) % stripes_of s == 0) ≡ true → (i : ℕ)
    → scramble_one i (stripe_done s m k i) s (length s - 64) ≡ accumulator_after s m i (k + 1)
next_with s m k e i =
    sym (accumulator_after-next s m k i ∙ ap (λ b. if b then scramble_one i (stripe_done s m k i) s (length s - 64) else stripe_done s m k i) e)

pub next_without : (s m : List ℕ) (k : ℕ) → ((k + 1) % stripes_of s == 0) ≡ false → (i : ℕ) → stripe_done s m k i ≡ accumulator_after s m i (k + 1)
next_without s m k e i =
    sym (accumulator_after-next s m k i ∙ ap (λ b. if b then scramble_one i (stripe_done s m k i) s (length s - 64) else stripe_done s m k i) e)

-- ---- accumulators read no byte after their stripes

pub accumulator_after-append : (s m d : List ℕ) (i k : ℕ) → i < 8 → 64 * k ≤ length m → accumulator_after s (m ++ d) i k ≡ accumulator_after s m i k
unfolding accumulator_after
accumulator_after-append s m d i zero h fits = refl
accumulator_after-append s m d i (suc k) h fits =
    ap (λ b. if (k + 1) % stripes_of s == 0 then scramble_one i b s (length s - 64) else b)
    (ap (λ a. accumulate_one i a (m ++ d) (64 * k) s (8 * (k % stripes_of s))) (accumulator_after-append s m d i k h (omega arith))
    ∙ accumulate_one-append i (accumulator_after s m i k) m d s (64 * k) (8 * (k % stripes_of s)) h (omega arith))
