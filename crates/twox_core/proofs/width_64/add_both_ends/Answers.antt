use Rattle.twox_core.proofs.Prelude.{[], ◌*◌, ◌+◌, ◌-◌, ◌∙◌, ◌≡◌, ap, arith, get_or, length, pair_at, secret_bytes, ℕ}
use Rattle.twox_core.specs.Middle.{both_ends}
use Rattle.twox_core.proofs.MixFacts.{sum_below-next, mix-of_chunks}
use Rattle.twox_core.proofs.width_64.add_both_ends.Goals as goal

pub returns : goal.returns
unfolding both_ends
returns c = λ start before.
    let m = c.args.input.now in
    let s = secret_bytes c.args.secret in
    let seed = c.args.seed in
    let i = c.args.c in
    let parts = c.chunks_17_to_128.ensures in
    let key : (k : ℕ) → get_or c.chunks_17_to_128.result.2.now k [] ≡ get_or (pair_at s (32 * i)) k [] = λ k. ap (λ l. get_or l k []) parts.words in
    let front = c.mix_step.ensures ∙ mix-of_chunks m s _ _ (16 * i) (32 * i) seed parts.forward (key 0) in
    let back = c.mix_step-2.ensures ∙ mix-of_chunks m s _ _ (length m - 16 * (i + 1)) (32 * i + 16) seed parts.backward (key 1) in
    omega (arith, front, back, before, sum_below-next (both_ends seed s m) i)
