use Rattle.std.proofs.Common.{◌≡◌, ℕ, ◌%◌, List, ◌++◌, length, drop, slice_index, slice_set, refl, ap, ◌∙◌, arith}
use Rattle.std.proofs.lemmas.List.{append-nil}
use Rattle.std.proofs.Math.ListN.{drop_of_length-le}
use Rattle.twox_c.specs.GeneratedSecret.{repeated}
use Rattle.twox_c.proofs.SecretFacts.{byte_written}
use Rattle.twox_c.proofs.secrets.repeat.Goals as goal

pub loop-i-init : goal.loop-i-init
unfolding repeated
loop-i-init c = refl

pub loop-i-preserved : goal.loop-i-preserved
loop-i-preserved c =
    let source = c.args.source.now in
    let i = c.loop-i.i in
    ap (λ (l : List ℕ). slice_set l i (slice_index source (i % length source))) c.loop-i.invariant
    ∙ byte_written source c.args.secret.now i (omega arith)

pub returns : goal.returns
returns c =
    let m = c.args.secret.now in
    let source = c.args.source.now in
    let n = length m in
    let done : c.loop-i.i ≡ n = omega arith in
    c.loop-i.invariant
    ∙ ap (λ (k : ℕ). repeated source k ++ drop k m) done
    ∙ ap (λ (l : List ℕ). repeated source n ++ l) (drop_of_length-le m {i = n} (omega arith))
    ∙ append-nil (repeated source n)
