-- The two operations of a kernel on the eight accumulators at once, each accumulator by the functions of the definition
-- for long inputs: the xxHash specification, "XXH3 algorithm description (for large inputs)", step 2.
use Rattle.std.specs.Prelude.{ℕ, ◌+◌, ◌*◌, ◌%◌, ◌^◌, List, [], ◌∷◌, slice_index, bit_xor}
use Rattle.twox_words.specs.Word.{xor_shift}
use Rattle.twox_core.specs.Primes.{prime32_1}
use Rattle.twox_core.specs.Steps.{mul64, word64}
use Rattle.twox_core.specs.Parts.{stripe_at}
use Rattle.twox_core.specs.Long.{accumulate_one, halves_product, scramble_one}

-- the four values f 0 to f 3
abbrev pub four : (ℕ → ℕ) → List ℕ
four f = f 0 ∷ f 1 ∷ f 2 ∷ f 3 ∷ []

-- the eight values f 0 to f 7
abbrev pub eight : (ℕ → ℕ) → List ℕ
eight f = f 0 ∷ f 1 ∷ f 2 ∷ f 3 ∷ f 4 ∷ f 5 ∷ f 6 ∷ f 7 ∷ []

-- the accumulators a after the 64 bytes t of a stripe, under the 64 bytes u of the secret
abbrev pub accumulate : List ℕ → List ℕ → List ℕ → List ℕ
accumulate a t u = eight (λ i. accumulate_one i (slice_index a i) t 0 u 0)

-- the accumulators a scrambled under the 64 bytes u of the secret
abbrev pub round_scramble : List ℕ → List ℕ → List ℕ
round_scramble a u = eight (λ i. scramble_one i (slice_index a i) u 0)

-- one accumulator of value a from its own word, its neighbour's and the secret's
abbrev pub sum_with_words : ℕ → ℕ → ℕ → ℕ → ℕ
sum_with_words a own other key = (a + other + halves_product (bit_xor own key)) % 2 ^ 64

-- accumulator i of the list a, from its word of w, its neighbour's and its key of k
abbrev pub sum_with_words_at : List ℕ → List ℕ → List ℕ → ℕ → ℕ
sum_with_words_at a w k i = sum_with_words (slice_index a i) (slice_index w i) (slice_index w (bit_xor i 1)) (slice_index k i)

-- one accumulator of value a after stripe k of the bytes t, under the secret u: its own word begins at byte p of the
-- stripe, and its neighbour's at byte q
abbrev pub sum_with_stripe : ℕ → List ℕ → List ℕ → ℕ → ℕ → ℕ → ℕ
sum_with_stripe a t u p q k = sum_with_words a (word64 (stripe_at t (64 * k)) p) (word64 (stripe_at t (64 * k)) q) (word64 (stripe_at u (8 * k)) p)

-- and after the first four
abbrev pub sum_with_four_stripes : ℕ → List ℕ → List ℕ → ℕ → ℕ → ℕ
sum_with_four_stripes a t u p q =
    sum_with_stripe (sum_with_stripe (sum_with_stripe (sum_with_stripe a t u p q 0) t u p q 1) t u p q 2) t u p q 3

-- one accumulator of value a scrambled under a word of the secret
abbrev pub scramble_with_word : ℕ → ℕ → ℕ
scramble_with_word a key = mul64 (bit_xor (xor_shift a 47) key) prime32_1
