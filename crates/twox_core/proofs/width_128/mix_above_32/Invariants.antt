use Rattle.twox_core.proofs.Prelude.{◌-◌, ◌≡◌, secret_bytes, steps_of}
use Rattle.twox_core.specs.Middle.{first_17_to_128, second_17_to_128}
use Rattle.twox_core.proofs.width_128.mix_above_32.Given as goal

-- Invariant: n - (4 - step) of the n steps are taken, or none if n < 4 - step. The loop leaves the last step.
abbrev pub invariant-loop-step : goal.invariant-loop-step
invariant-loop-step l = record {
  first : l.fn.initial.first ≡ first_17_to_128 l.seed (secret_bytes l.secret) l.input (steps_of l.input) 0
      → l.accumulators.first ≡ first_17_to_128 l.seed (secret_bytes l.secret) l.input (steps_of l.input) (steps_of l.input - (4 - l.step));
  second : l.fn.initial.second ≡ second_17_to_128 l.seed (secret_bytes l.secret) l.input (steps_of l.input) 0
      → l.accumulators.second ≡ second_17_to_128 l.seed (secret_bytes l.secret) l.input (steps_of l.input) (steps_of l.input - (4 - l.step));
}
