use Rattle.twox_core.proofs.Prelude.{◌+◌, ◌-◌, ◌∙◌, ◌≡◌, ap, arith, secret_bytes, steps_of}
use Rattle.twox_core.specs.Middle.{first_17_to_128, second_17_to_128}
use Rattle.twox_core.proofs.width_128.mix_above_32.Goals as goal

pub loop-step-init : goal.loop-step-init
loop-step-init c =
    let m = c.args.input.now in
    let s = secret_bytes c.args.secret in
    let none : 0 ≡ steps_of m - (4 - 0) = omega arith in
    record {
      first = λ begins. begins ∙ ap (first_17_to_128 c.args.seed s m (steps_of m)) none;
      second = λ begins. begins ∙ ap (second_17_to_128 c.args.seed s m (steps_of m)) none;
    }

pub loop-step-preserved : goal.loop-step-preserved
loop-step-preserved c =
    let m = c.args.input.now in
    let s = secret_bytes c.args.secret in
    let n = steps_of m in
    let step = c.loop-step.step in
    let before : n - (4 - step) ≡ n - 1 - (3 - step) = omega arith in
    let after : n - (3 - step) ≡ n - (4 - (step + 1)) = omega arith in
    record {
      first = λ begins.
          c.mix_two_chunks-accumulators.ensures.first (c.loop-step.invariant.first begins ∙ ap (first_17_to_128 c.args.seed s m n) before)
          ∙ ap (first_17_to_128 c.args.seed s m n) after;
      second = λ begins.
          c.mix_two_chunks-accumulators.ensures.second (c.loop-step.invariant.second begins ∙ ap (second_17_to_128 c.args.seed s m n) before)
          ∙ ap (second_17_to_128 c.args.seed s m n) after;
    }
