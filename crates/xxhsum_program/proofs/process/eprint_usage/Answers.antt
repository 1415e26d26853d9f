use Rattle.xxhsum_program.proofs.EprintFacts.{reports-more}
use Rattle.xxhsum_program.proofs.process.eprint_usage.Goals as goal

pub returns : goal.returns
returns g c =
    let title = reports-more g.E.Sink _ _ _ _ _ c.eprint_line.ensures c.eprint.ensures in
    let usage = reports-more g.E.Sink _ _ _ _ _ title c.eprint_line-2.ensures in
    let before = reports-more g.E.Sink _ _ _ _ _ usage c.eprint-2.ensures in
    reports-more g.E.Sink _ _ _ _ _ (reports-more g.E.Sink _ _ _ _ _ before c.eprint_options.ensures) c.eprint-3.ensures
