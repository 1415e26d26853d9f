use Rattle.twox_core.proofs.Prelude.{◌+◌, ◌∙◌, ◌≡◌, ap, arith, w64, word64, word_at-drop}
use Rattle.twox_core.proofs.width_64.second_word.Goals as goal

pub returns : goal.returns
returns c =
    let m = c.args.input.now in
    let i = c.args.i in
    let place : 8 + i ≡ i + 8 = omega arith in
    c.u64_at.ensures ∙ ap (λ b. word64 b i) c.requires.from_8 ∙ word_at-drop w64 8 m i ∙ ap (word64 m) place
