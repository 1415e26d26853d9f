use Rattle.xxhsum_program.proofs.EprintFacts.{reports-more}
use Rattle.xxhsum_program.proofs.stderr.+eprint_parts.Goals as goal

pub returns-in-Some : goal.returns-in-Some
returns-in-Some g t c =
    rw c.in-Some.ensures.cases.0 (reports-more g.E.Sink _ _ _ _ _ c.eprint.ensures c.eprint_parts.ensures)
