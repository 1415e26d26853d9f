use Rattle.xxhsum_program.proofs.EprintFacts.{reports-more}
use Rattle.xxhsum_program.proofs.stderr.eprint_line.Goals as goal

pub returns : goal.returns
returns g c =
    reports-more g.E.Sink _ _ _ _ _ (reports-more g.E.Sink _ _ _ _ _ c.eprint_mark.ensures c.eprint_escaped_parts.ensures) c.eprint.ensures
