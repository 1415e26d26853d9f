use Rattle.twox_core.proofs.Prelude.{[], ◌*◌, ◌+◌, ◌-◌, ◌∙◌, ap, arith, get_or, length, secret_bytes, steps_of, sym}
use Rattle.twox_core.proofs.MixFacts.{accumulator_step-of_chunks, first_17_to_128-chunk, second_17_to_128-chunk}
use Rattle.twox_core.proofs.width_128.mix_two_chunks.Goals as goal

pub returns-clause-first : goal.returns-clause-first
returns-clause-first c = λ before.
    let m = c.args.input.now in
    let s = secret_bytes c.args.secret in
    let seed = c.args.seed in
    let i = c.args.c in
    let parts = c.chunks_17_to_128.ensures in
    let key = ap (λ l. get_or l 0 []) parts.words in
    c.accumulator_step.ensures
    ∙ accumulator_step-of_chunks seed s m _ _ _ _ _ (16 * i) (32 * i) (length m - 16 * (i + 1)) before parts.forward key parts.backward
    ∙ sym (first_17_to_128-chunk seed s m (steps_of m) i (omega arith))

pub returns-clause-second : goal.returns-clause-second
returns-clause-second c = λ before.
    let m = c.args.input.now in
    let s = secret_bytes c.args.secret in
    let seed = c.args.seed in
    let i = c.args.c in
    let parts = c.chunks_17_to_128.ensures in
    let key = ap (λ l. get_or l 1 []) parts.words in
    c.accumulator_step-2.ensures
    ∙ accumulator_step-of_chunks seed s m _ _ _ _ _ (length m - 16 * (i + 1)) (32 * i + 16) (16 * i) before parts.backward key parts.forward
    ∙ sym (second_17_to_128-chunk seed s m (steps_of m) i (omega arith))
