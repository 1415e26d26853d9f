use Rattle.std.proofs.Common.{subst}
use Rattle.xxh_io.specs.Digest.{Took}
use Rattle.xxhsum_output.specs.Messages.{holder_of}
use Rattle.xxhsum_output.proofs.MessagesFacts.{holder_refused, holder_took}
use Rattle.xxhsum_output.proofs.messages.Messages.laws.Goals as goal

pub returns-clause-taken : goal.returns-clause-taken
returns-clause-taken g c old new bytes took =
    subst (λ all. Took g.W.Sink all (holder_of old) (holder_of new)) took.2 (holder_took g.W.Sink took.0 old new took.1)

pub returns-clause-refused : goal.returns-clause-refused
returns-clause-refused g c old new bytes refused =
    holder_refused g.W.Sink bytes refused.0 old refused.1 new refused.2 refused.3 refused.4
