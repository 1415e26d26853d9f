use Rattle.std.proofs.Common.{ℕ, Option, ap, ◌∙◌}
use Rattle.std.specs.Option.{unwrap_or}
use Rattle.twox_hash.proofs.StreamFacts.{value_128_stands}
use Rattle.twox_c.proofs.xxh3_128.twox_c_digest_128.Goals as goal

pub returns-clause-message : goal.returns-clause-message
returns-clause-message c = λ seed m given.
    let value = λ (o : Option ℕ). unwrap_or o 0 in
    value_128_stands _ seed c.args.secret.now m (λ short. c.of.ensures ∙ c.unwrap_or.ensures ∙ ap value (c.finish_with.ensures.short seed m given short))
    (λ long. c.of.ensures ∙ c.unwrap_or.ensures ∙ ap value (c.finish_with.ensures.long seed m given long))
