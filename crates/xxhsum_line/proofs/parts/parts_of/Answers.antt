use Rattle.xxhsum_line.proofs.Prelude.{rules, arith}
use Rattle.xxhsum_line.proofs.PartFacts.{no_parts_at_end}
use Rattle.xxhsum_line.proofs.parts.parts_of.Goals as goal

pub returns-in-empty : goal.returns-in-empty
returns-in-empty c = no_parts_at_end c.args.line.now c.in_ok-first.first.now c.in_ok-first.rest.now (search rules) (search rules) (omega arith)
