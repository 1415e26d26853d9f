use Rattle.std.proofs.Common.{◌==◌, ◌&&◌, ◌||◌, List, ap, arith, drop, false, not, sym, ℕ, ◌∙◌}
use Rattle.xxhsum_options.specs.Exclude.{first_and, matches_from}
use Rattle.xxhsum_options.proofs.ExcludeFacts.{first-later, passed}
use Rattle.xxhsum_options.proofs.exclude.match_ahead.Goals as goal

pub loop-first-preserved : goal.loop-first-preserved
loop-first-preserved c =
    let quoted = c.loop-first.is_quoted in
    let first = c.in-Some.first.now in
    let others = c.in-Some.behind.now in
    let one = λ (byte : ℕ). byte == first || (not quoted && first == 63) in
    let pattern_is = c.in-Some.ensures.cases.0 in
    let name_is = c.in-Some-split_first.ensures.cases.0 in
    let step = λ (name : List ℕ). ap (λ p. matches_from quoted p name) pattern_is
    ∙ passed quoted first others (sym c.is_special.ensures ∙ c.if-is_special.false) (sym c.is_special-in-Some.ensures ∙ c.if-is_special-2.false) name in
    record {
      value = c.loop-first.invariant.value ∙ step c.loop-first.left.now ∙ ap (first_and one (matches_from false others)) name_is
          ∙ ap (λ b. b && matches_from false others c.in-Some-split_first.rest.now) (sym c.passes.ensures ∙ c.if-not-passes.false);
      leftmost = λ k h. first-later one (matches_from false others) c.in-Some-split_first.byte.now c.in-Some-split_first.rest.now k
          (sym (ap (λ n. first_and one (matches_from false others) (drop k n)) name_is) ∙ sym (step (drop k c.loop-first.left.now)) ∙ c.loop-first.invariant.leftmost k h);
      shorter = omega (arith, c.in-Some.ensures);
    }
