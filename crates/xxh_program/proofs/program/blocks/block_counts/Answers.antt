use Rattle.xxh_program.proofs.BlockFacts.{begins, ends}
use Rattle.xxh_program.proofs.program.blocks.block_counts.Goals as goal

pub returns-clause-lines : goal.returns-clause-lines
returns-clause-lines c = begins

pub returns-clause-whole : goal.returns-clause-whole
returns-clause-whole c = ends
