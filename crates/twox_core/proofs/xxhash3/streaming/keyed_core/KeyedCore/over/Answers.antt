use Rattle.twox_core.proofs.StateFacts.{empty_range}
use Rattle.twox_core.proofs.StreamFacts.{stands_fresh}
use Rattle.twox_core.proofs.xxhash3.streaming.keyed_core.KeyedCore.over.Goals as goal

pub invariant_of-result : goal.invariant_of-result
invariant_of-result g c = (rw c.new.ensures.state (empty_range (g.K.Key.bytes (g.K.Key.key c.args.key).secret) c.requires), c.new.ensures.few)

pub returns : goal.returns
returns g c = rw c.new.ensures.state (stands_fresh g.K.Key.bytes (g.K.Key.key c.args.key))
