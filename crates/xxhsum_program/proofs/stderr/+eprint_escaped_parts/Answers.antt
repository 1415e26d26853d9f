use Rattle.xxhsum_program.proofs.Prelude.{escaped_append, joined}
use Rattle.xxhsum_program.proofs.EprintFacts.{reports-more}
use Rattle.xxhsum_program.proofs.stderr.+eprint_escaped_parts.Goals as goal

pub returns-in-Some : goal.returns-in-Some
returns-in-Some g t c =
    rw (c.in-Some.ensures.cases.0, escaped_append c.in-Some.part.now.now (joined c.in-Some.rest.now)) (reports-more g.E.Sink _ _ _ _ _ c.eprint_escaped.ensures c.eprint_escaped_parts.ensures)
