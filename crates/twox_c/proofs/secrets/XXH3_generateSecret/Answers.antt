use Rattle.std.proofs.Common.{Bool, if◌then◌else◌, length, refl, sym, ap, ◌∙◌}
use Rattle.twox_core.specs.Secret.{default_secret}
use Rattle.twox_c.specs.GeneratedSecret.{secret_from}
use Rattle.twox_c.proofs.secrets.XXH3_generateSecret.Goals as goal

pub returns-then-is_empty-clause-written : goal.returns-then-is_empty-clause-written
unfolding default_secret
returns-then-is_empty-clause-written c = λ _.
    let m = c.args.customSeed.now in
    let n = length c.args.secretBuffer.now in
    (refl, c.write_secret.ensures ∙ ap (λ (b : Bool). secret_from (if b then default_secret else m) n) (sym c.if-is_empty.true ∙ c.is_empty.ensures))
