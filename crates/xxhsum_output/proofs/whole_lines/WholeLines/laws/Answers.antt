use Rattle.xxhsum_output.proofs.WholeLinesFacts.{refused-reaches, taken-reaches}
use Rattle.xxhsum_output.proofs.whole_lines.WholeLines.laws.Goals as goal

pub returns-clause-taken : goal.returns-clause-taken
returns-clause-taken g c old new bytes works empty took = taken-reaches g.W.Sink bytes took.0 old new works empty took.1 took.2

pub returns-clause-refused : goal.returns-clause-refused
returns-clause-refused g c old new bytes works empty refused =
    refused-reaches g.W.Sink bytes refused.4.0 refused.0 old refused.1 new works empty refused.2 refused.3 refused.4.1 refused.4.2
