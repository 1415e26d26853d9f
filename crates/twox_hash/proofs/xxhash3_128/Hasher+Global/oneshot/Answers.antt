use Rattle.std.proofs.Common.{arith, lit<, ◌∙◌}
use Rattle.twox_core.specs.Secret.{default_secret}
use Rattle.twox_core.proofs.OneshotLaws.{tells_others_128, has_low_half_64}
use Rattle.twox_core.proofs.ShortLaws.{default_secret-bytes}
use Rattle.twox_hash.proofs.xxhash3_128.Hasher+Global.oneshot.Goals as goal

pub returns-clause-tells_others : goal.returns-clause-tells_others
returns-clause-tells_others c =
    tells_others_128 0 _ default_secret c.args.input.now default_secret-bytes (λ k. omega (arith, c.type_inv.input k)) (lit< tt)
    (λ _. c.into_u128.ensures ∙ c.oneshot.ensures)

pub returns-clause-low_half : goal.returns-clause-low_half
returns-clause-low_half c = has_low_half_64 0 _ default_secret c.args.input.now (c.into_u128.ensures ∙ c.oneshot.ensures)
