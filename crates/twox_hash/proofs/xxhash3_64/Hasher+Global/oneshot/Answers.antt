use Rattle.std.proofs.Common.{arith, lit<}
use Rattle.twox_core.specs.Secret.{default_secret}
use Rattle.twox_core.proofs.OneshotLaws.{tells_others_64}
use Rattle.twox_core.proofs.ShortLaws.{default_secret-bytes}
use Rattle.twox_hash.proofs.xxhash3_64.Hasher+Global.oneshot.Goals as goal

pub returns-clause-tells_others : goal.returns-clause-tells_others
returns-clause-tells_others c =
    tells_others_64 0 _ default_secret c.args.input.now default_secret-bytes (λ k. omega (arith, c.type_inv.input k)) (lit< tt)
    (λ _. c.oneshot.ensures)
