use Rattle.twox_core.proofs.Prelude.{[], ◌*◌, ◌+◌, ◌-◌, ◌/◌, ◌<◌, ◌^◌, ◌∙◌, ◌≡◌, List, ap, ap₂, arith, get_or, length, prime64_1, refl, secret_bytes, sym, ℕ}
use Rattle.twox_core.specs.Parts.{chunk_at, pair_at, pairs_at}
use Rattle.twox_core.specs.Steps.{avalanche, mul64, sub64}
use Rattle.twox_core.specs.Middle.{accumulator_step, merge_high, merge_low, first_129_to_240, second_129_to_240, pairs_first, pairs_second}
use Rattle.twox_core.specs.Value.{high_in, low_in}
use Rattle.twox_core.proofs.MixFacts.{accumulator_step-of_chunks, pairs_first-next, pairs_second-next}
use Rattle.twox_core.proofs.ValueLaws.{middle_129_to_240}
use Rattle.twox_core.proofs.PartFacts.{pairs_at-pair, last-pair}
use Rattle.twox_core.proofs.width_128.impl_129_to_240_bytes.Goals as goal

pub early-init : goal.early-init
unfolding pairs_first pairs_second
early-init c = record { first = c.initial_accumulators-first.ensures.first; second = c.initial_accumulators-first.ensures.second }

pub early-preserved : goal.early-preserved
early-preserved c =
    let m = c.args.input.now in
    let s = secret_bytes c.args.secret in
    let seed = c.args.seed in
    let p = c.early.p in
    let before = c.early.invariant in
    let pair = pairs_at-pair m _ 0 (length m / 32) p (0 + 32 * p) [] c.pairs_of_u64_bytes-pairs.ensures.pairs (omega arith) refl in
    let words = c.words_for_129_to_240_part1-words.ensures.pairs ∙ ap (λ b. pairs_at b 0 4) c.for_128.ensures in
    let word = pairs_at-pair s _ 0 4 p (0 + 32 * p) [] words (omega arith) refl in
    let chunk : (k : ℕ) → get_or (get_or c.pairs_of_u64_bytes-pairs.result.now p []) k [] ≡ get_or (pair_at m (0 + 32 * p)) k [] = λ k. ap (λ (l : List (List ℕ)). get_or l k []) pair in
    let key : (k : ℕ) → get_or (get_or c.words_for_129_to_240_part1-words.result.now p []) k [] ≡ get_or (pair_at s (0 + 32 * p)) k [] = λ k. ap (λ (l : List (List ℕ)). get_or l k []) word in
    record {
      first = c.accumulator_step-first.ensures
          ∙ accumulator_step-of_chunks seed s m _ _ _ _ _ (0 + 32 * p) (0 + 32 * p) (0 + 32 * p + 16) before.first (chunk 0) (key 0) (chunk 1)
          ∙ sym (pairs_first-next seed s m 0 0 _ p);
      second = c.accumulator_step-second.ensures
          ∙ accumulator_step-of_chunks seed s m _ _ _ _ _ (0 + 32 * p + 16) (0 + 32 * p + 16) (0 + 32 * p) before.second (chunk 1) (key 1) (chunk 0)
          ∙ sym (pairs_second-next seed s m 0 0 _ p);
    }

pub later-init : goal.later-init
unfolding pairs_first pairs_second
later-init c =
    let m = c.args.input.now in
    let s = secret_bytes c.args.secret in
    let seed = c.args.seed in
    let done : c.early.p ≡ 4 = omega arith in
    record {
      first = c.avalanche-first.ensures ∙ ap avalanche (c.early.invariant.first ∙ ap (pairs_first seed s m 0 0 (mul64 (length m) prime64_1)) done);
      second = c.avalanche-second.ensures ∙ ap avalanche (c.early.invariant.second ∙ ap (pairs_second seed s m 0 0 0) done);
    }

pub later-preserved : goal.later-preserved
later-preserved c =
    let m = c.args.input.now in
    let s = secret_bytes c.args.secret in
    let seed = c.args.seed in
    let p = c.later.p in
    let i = 128 + 32 * p in
    let j = 3 + 32 * p in
    let before = c.later.invariant in
    let few : p < 4 = omega (arith, c.pairs_of_u64_bytes-pairs.ensures.count) in
    let pair = pairs_at-pair m _ 0 (length m / 32) (4 + p) i [] c.pairs_of_u64_bytes-pairs.ensures.pairs (omega (arith, c.pairs_of_u64_bytes-pairs.ensures.count)) (omega arith) in
    let words = c.words_for_129_to_240_part2-words.ensures.pairs ∙ ap (λ b. pairs_at b 3 4) c.for_128-2.ensures in
    let word = pairs_at-pair s _ 3 4 p j [] words few refl in
    let chunk : (k : ℕ) → get_or (get_or c.pairs_of_u64_bytes-pairs.result.now (4 + p) []) k [] ≡ get_or (pair_at m i) k [] = λ k. ap (λ (l : List (List ℕ)). get_or l k []) pair in
    let key : (k : ℕ) → get_or (get_or c.words_for_129_to_240_part2-words.result.now p []) k [] ≡ get_or (pair_at s j) k [] = λ k. ap (λ (l : List (List ℕ)). get_or l k []) word in
    record {
      first = c.accumulator_step-first-in-later.ensures
          ∙ accumulator_step-of_chunks seed s m _ _ _ _ _ i j (i + 16) before.first (chunk 0) (key 0) (chunk 1)
          ∙ sym (pairs_first-next seed s m 128 3 _ p);
      second = c.accumulator_step-second-in-later.ensures
          ∙ accumulator_step-of_chunks seed s m _ _ _ _ _ (i + 16) (j + 16) i before.second (chunk 1) (key 1) (chunk 0)
          ∙ sym (pairs_second-next seed s m 128 3 _ p);
    }

-- Lemma: the last step takes the last 32 bytes of the input, and the secret's 32 bytes at offset 103.
tail_pair : (c : goal.After-finalize_medium) → c.bp_as_chunks.result.0.now ≡ pair_at c.args.input.now (length c.args.input.now - 32)
tail_pair c =
    last-pair c.args.input.now _ _ _ (omega arith) c.split_at.ensures.back c.bp_as_chunks.ensures.chunks (omega arith)

tail_words : (c : goal.After-finalize_medium) → c.words_for_129_to_240_part3-words.result.now ≡ pair_at (secret_bytes c.args.secret) 103
tail_words c = c.words_for_129_to_240_part3-words.ensures ∙ ap (λ b. pair_at b 103) c.for_128-3.ensures

last_chunk : (c : goal.After-finalize_medium) → get_or c.bp_as_chunks.result.0.now 1 [] ≡ chunk_at c.args.input.now (length c.args.input.now - 16)
last_chunk c =
    let place : length c.args.input.now - 32 + 16 ≡ length c.args.input.now - 16 = omega arith in
    ap (λ l. get_or l 1 []) (tail_pair c) ∙ ap (chunk_at c.args.input.now) place

-- Lemma: the accumulators after the last step are first_129_to_240 and second_129_to_240.
last_first : (c : goal.After-finalize_medium) → c.accumulator_step.result ≡ first_129_to_240 c.args.seed (secret_bytes c.args.secret) c.args.input.now
unfolding first_129_to_240
last_first c =
    let m = c.args.input.now in
    let s = secret_bytes c.args.secret in
    let seed = c.args.seed in
    let start : ℕ = avalanche (pairs_first seed s m 0 0 (mul64 (length m) prime64_1) 4) in
    let negated : c.wrapping_neg-negated.result ≡ sub64 0 seed = omega arith in
    let done : c.later.p ≡ (length m - 128) / 32 = omega (arith, c.pairs_of_u64_bytes-pairs.ensures.count) in
    c.accumulator_step.ensures
    ∙ accumulator_step-of_chunks _ s m _ _ _ _ _ (length m - 16) 103 (length m - 32) (c.later.invariant.first ∙ ap (pairs_first seed s m 128 3 start) done)
    (last_chunk c) (ap (λ l. get_or l 0 []) (tail_words c)) (ap (λ l. get_or l 0 []) (tail_pair c))
    ∙ ap (λ (x : ℕ). accumulator_step x s m (pairs_first seed s m 128 3 start ((length m - 128) / 32)) (length m - 16) 103 (length m - 32)) negated

last_second : (c : goal.After-finalize_medium) → c.accumulator_step-2.result ≡ second_129_to_240 c.args.seed (secret_bytes c.args.secret) c.args.input.now
unfolding second_129_to_240
last_second c =
    let m = c.args.input.now in
    let s = secret_bytes c.args.secret in
    let seed = c.args.seed in
    let start : ℕ = avalanche (pairs_second seed s m 0 0 0 4) in
    let negated : c.wrapping_neg-negated.result ≡ sub64 0 seed = omega arith in
    let done : c.later.p ≡ (length m - 128) / 32 = omega (arith, c.pairs_of_u64_bytes-pairs.ensures.count) in
    c.accumulator_step-2.ensures
    ∙ accumulator_step-of_chunks _ s m _ _ _ _ _ (length m - 32) 119 (length m - 16) (c.later.invariant.second ∙ ap (pairs_second seed s m 128 3 start) done)
    (ap (λ l. get_or l 0 []) (tail_pair c)) (ap (λ l. get_or l 1 []) (tail_words c)) (last_chunk c)
    ∙ ap (λ (x : ℕ). accumulator_step x s m (pairs_second seed s m 128 3 start ((length m - 128) / 32)) (length m - 32) 119 (length m - 16)) negated

pub returns : goal.returns
unfolding low_in high_in
returns c =
    let m = c.args.input.now in
    let seed = c.args.seed in
    let a : ℕ = c.accumulator_step.result in
    let b : ℕ = c.accumulator_step-2.result in
    let low = c.finalize_medium.ensures.low ∙ ap₂ merge_low (last_first c) (last_second c) in
    let high = c.finalize_medium.ensures.high
    ∙ ap (λ len. merge_high seed len a b) c.into_u64.ensures
    ∙ ap₂ (merge_high seed (length m)) (last_first c) (last_second c) in
    ap₂ (λ (h : ℕ) (l : ℕ). h * 2 ^ 64 + l) high low
    ∙ sym (middle_129_to_240 seed (secret_bytes c.args.secret) m (omega arith) (omega arith))
