use Rattle.xxhsum_program.proofs.EprintFacts.{reports-more}
use Rattle.xxhsum_program.proofs.process.eprint_wrong.Goals as goal

pub returns : goal.returns
returns g c =
    reports-more g.E.Sink _ _ _ _ _ (reports-more g.E.Sink _ _ _ _ _ c.eprint_line.ensures c.eprint.ensures) c.eprint_usage.ensures
