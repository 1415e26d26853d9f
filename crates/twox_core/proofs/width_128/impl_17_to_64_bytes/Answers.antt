use Rattle.twox_core.proofs.Prelude.{◌-◌, ◌∙◌, ◌≡◌, ap, arith, secret_bytes, steps_of}
use Rattle.twox_core.specs.Middle.{first_17_to_128, second_17_to_128}
use Rattle.twox_core.proofs.width_128.impl_17_to_64_bytes.Goals as goal

-- Lemma: mix_two_chunks takes all steps except the last. There are at most two steps.
before_last_first : (c : goal.After-mix_last) → c.mix_two_chunks-accumulators.result.first
    ≡ first_17_to_128 c.args.seed (secret_bytes c.args.secret) c.args.input.now (steps_of c.args.input.now) (steps_of c.args.input.now - 1)
unfolding first_17_to_128
before_last_first c =
    let none : 0 ≡ steps_of c.args.input.now - 1 - 1 = omega arith in
    c.mix_two_chunks-accumulators.ensures.first
    (c.initial_accumulators.ensures.first ∙ ap (first_17_to_128 c.args.seed (secret_bytes c.args.secret) c.args.input.now (steps_of c.args.input.now)) none)

before_last_second : (c : goal.After-mix_last) → c.mix_two_chunks-accumulators.result.second
    ≡ second_17_to_128 c.args.seed (secret_bytes c.args.secret) c.args.input.now (steps_of c.args.input.now) (steps_of c.args.input.now - 1)
unfolding second_17_to_128
before_last_second c =
    let none : 0 ≡ steps_of c.args.input.now - 1 - 1 = omega arith in
    c.mix_two_chunks-accumulators.ensures.second
    (c.initial_accumulators.ensures.second ∙ ap (second_17_to_128 c.args.seed (secret_bytes c.args.secret) c.args.input.now (steps_of c.args.input.now)) none)

pub returns : goal.returns
returns c = c.mix_last.ensures (before_last_first c) (before_last_second c)
