use Rattle.std.proofs.Common.{rules, ◌≡◌, ap, arith, sym, ◌∙◌}
use Rattle.twox_core.specs.Secret.{default_secret}
use Rattle.twox_core.specs.SecretBytes.{secret_bytes}
use Rattle.twox_core.specs.Value.{effective_secret, xxh3_128}
use Rattle.twox_core.proofs.OneshotLaws.{tells_others_128, has_low_half_64}
use Rattle.twox_core.proofs.ShortLaws.{default_secret-bytes}
use Rattle.twox_core.proofs.ValueLaws.{effective_short, effective_long}
use Rattle.twox_hash.proofs.xxhash3_128.Hasher+Global.oneshot_with_seed_and_secret.Goals as goal

pub returns-then-input-le-CUTOFF-clause-tells_others : goal.returns-then-input-le-CUTOFF-clause-tells_others
returns-then-input-le-CUTOFF-clause-tells_others c =
    let m = c.args.input.now in
    tells_others_128 c.args.seed _ default_secret m default_secret-bytes (λ k. omega (arith, c.type_inv.input k)) (omega arith)
    (λ _. c.into_u128.ensures ∙ c.oneshot_short.ensures ∙ ap (λ s. xxh3_128 c.args.seed s m) c.default_secret.ensures)

pub returns-then-input-le-CUTOFF-clause-low_half : goal.returns-then-input-le-CUTOFF-clause-low_half
returns-then-input-le-CUTOFF-clause-low_half c =
    let m = c.args.input.now in
    let given = c.args.secret.now in
    has_low_half_64 c.args.seed _ (effective_secret given m) m
    (c.into_u128.ensures
    ∙ c.oneshot_short.ensures
    ∙ ap (λ s. xxh3_128 c.args.seed s m) (c.default_secret.ensures ∙ sym (effective_short given m (omega arith))))

pub returns-clause-low_half : goal.returns-clause-low_half
returns-clause-low_half c =
    let m = c.args.input.now in
    let given = c.args.secret.now in
    let same : secret_bytes c.in_ok-own.own ≡ given = grind (arith, rules) in
    has_low_half_64 c.args.seed _ (effective_secret given m) m
    (c.into_u128-2.ensures
    ∙ c.oneshot_long.ensures c.args.seed
    ∙ ap (λ s. xxh3_128 c.args.seed s m) (same ∙ sym (effective_long given m (omega arith))))
