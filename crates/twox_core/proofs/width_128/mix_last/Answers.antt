use Rattle.twox_core.proofs.Prelude.{◌*◌, ◌+◌, ◌-◌, ◌^◌, ◌∙◌, ◌≡◌, ap, ap₂, arith, length, secret_bytes, sym, ℕ}
use Rattle.twox_core.specs.Middle.{merge_high, merge_low, first_17_to_128, second_17_to_128}
use Rattle.twox_core.specs.Value.{high_in, low_in, steps_of}
use Rattle.twox_core.proofs.ValueLaws.{middle_17_to_128}
use Rattle.twox_core.proofs.width_128.mix_last.Goals as goal

-- Lemma: the last of n steps takes an accumulator from F (n - 1) to F n, with F k its value after k steps.
last_step : (F : ℕ → ℕ) (n x y : ℕ) → (x ≡ F (n - 1 - 0) → y ≡ F (n - 0)) → x ≡ F (n - 1) → y ≡ F n
last_step F n x y step before =
    let from : n - 1 ≡ n - 1 - 0 = omega arith in
    let to : n - 0 ≡ n = omega arith in
    step (before ∙ ap F from) ∙ ap F to

last_first : (c : goal.After-finalize_medium)
    → (let F = first_17_to_128 c.args.seed (secret_bytes c.args.secret) c.args.input.now (steps_of c.args.input.now) in
    c.args.accumulators.first ≡ F (steps_of c.args.input.now - 1) → c.mix_two_chunks-accumulators.result.first ≡ F (steps_of c.args.input.now))
last_first c =
    let F = first_17_to_128 c.args.seed (secret_bytes c.args.secret) c.args.input.now (steps_of c.args.input.now) in
    last_step F (steps_of c.args.input.now) _ _ c.mix_two_chunks-accumulators.ensures.first

last_second : (c : goal.After-finalize_medium)
    → (let F = second_17_to_128 c.args.seed (secret_bytes c.args.secret) c.args.input.now (steps_of c.args.input.now) in
    c.args.accumulators.second ≡ F (steps_of c.args.input.now - 1) → c.mix_two_chunks-accumulators.result.second ≡ F (steps_of c.args.input.now))
last_second c =
    let F = second_17_to_128 c.args.seed (secret_bytes c.args.secret) c.args.input.now (steps_of c.args.input.now) in
    last_step F (steps_of c.args.input.now) _ _ c.mix_two_chunks-accumulators.ensures.second

pub returns : goal.returns
unfolding low_in high_in
returns c first second =
    let m = c.args.input.now in
    let seed = c.args.seed in
    let a = c.mix_two_chunks-accumulators.result in
    let low = c.finalize_medium.ensures.low ∙ ap₂ merge_low (last_first c first) (last_second c second) in
    let high = c.finalize_medium.ensures.high
    ∙ ap (λ len. merge_high seed len a.first a.second) c.into_u64.ensures
    ∙ ap₂ (merge_high seed (length m)) (last_first c first) (last_second c second) in
    ap₂ (λ (h : ℕ) (l : ℕ). h * 2 ^ 64 + l) high low
    ∙ sym (middle_17_to_128 seed (secret_bytes c.args.secret) m (omega arith) (omega arith))
