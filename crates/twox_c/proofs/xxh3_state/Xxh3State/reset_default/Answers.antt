use Rattle.twox_core.specs.Secret.{default_secret}
use Rattle.twox_c.proofs.xxh3_state.Xxh3State.reset_default.Goals as goal

pub returns-clause-empty : goal.returns-clause-empty
unfolding default_secret
returns-clause-empty c = c.reset.ensures.empty
