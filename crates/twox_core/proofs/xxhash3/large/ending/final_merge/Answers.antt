use Rattle.std.proofs.Common.{◌≡◌, ℕ, ◌+◌, ◌%◌, ◌^◌, slice_index, arith, ap, ◌∙◌}
use Rattle.twox_core.specs.Steps.{avalanche, sum_below}
use Rattle.twox_core.specs.Long.{pair_fold, merge_accumulators}
use Rattle.twox_core.proofs.xxhash3.large.ending.final_merge.Goals as goal

-- Lemma: adding two folds and then two more is adding four folds.
in_two_steps : (init a b c d front all : ℕ) → front ≡ (init + a + b) % 2 ^ 64 → all ≡ (front + c + d) % 2 ^ 64 → all ≡ (init + (0 + a + b + c + d)) % 2 ^ 64
in_two_steps init a b c d front all first second = omega (arith, first, second)

pub returns : goal.returns
unfolding merge_accumulators sum_below pair_fold
returns c =
    let folded = pair_fold (slice_index c.args.acc) c.args.key.now 0 in
    let front : c.add_folds-front.result ≡ (c.args.init + folded 0 + folded 1) % 2 ^ 64 =
    rw (c.keyed_four.ensures.a, c.keyed_four.ensures.b, c.keyed_four.ensures.c, c.keyed_four.ensures.d, c.words.ensures) at c.add_folds-front.ensures in
    let all : c.add_folds.result ≡ (c.add_folds-front.result + folded 2 + folded 3) % 2 ^ 64 =
    rw (c.keyed_four-2.ensures.a, c.keyed_four-2.ensures.b, c.keyed_four-2.ensures.c, c.keyed_four-2.ensures.d, c.words-2.ensures) at c.add_folds.ensures in
    c.avalanche.ensures ∙ ap avalanche (in_two_steps c.args.init (folded 0) (folded 1) (folded 2) (folded 3) _ _ front all)
