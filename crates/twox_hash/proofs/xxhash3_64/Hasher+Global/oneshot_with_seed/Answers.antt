use Rattle.std.proofs.Common.{ap, arith, ◌∙◌}
use Rattle.twox_core.specs.Secret.{default_secret, derived_secret}
use Rattle.twox_core.specs.Value.{xxh3_64}
use Rattle.twox_core.proofs.OneshotLaws.{tells_others_64}
use Rattle.twox_core.proofs.ShortLaws.{default_secret-bytes}
use Rattle.twox_core.proofs.ValueLaws.{effective_short}
use Rattle.twox_hash.proofs.xxhash3_64.Hasher+Global.oneshot_with_seed.Goals as goal

pub returns-clause-tells_others : goal.returns-clause-tells_others
returns-clause-tells_others c =
    let m = c.args.input.now in
    tells_others_64 c.args.seed _ default_secret m default_secret-bytes (λ k. omega (arith, c.type_inv.input k)) (omega arith)
    (λ short.
    c.oneshot_with_seed.ensures
    ∙ ap (λ s. xxh3_64 c.args.seed s m) (effective_short (derived_secret c.args.seed) m short))
