use Rattle.twox_core.proofs.Prelude.{◌∙◌, arith, secret_bytes, take_all}
use Rattle.twox_core.proofs.xxhash3.secret.Secret.of_default_length.Goals as goal

pub returns : goal.returns
returns c = c.array_at.ensures ∙ take_all 192 (secret_bytes c.args.self) (omega arith)
