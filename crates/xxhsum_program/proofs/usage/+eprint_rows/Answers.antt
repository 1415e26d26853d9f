use Rattle.std.proofs.Common.{sym}
use Rattle.xxhsum_program.proofs.EprintFacts.{reports-more}
use Rattle.xxhsum_program.proofs.usage.+eprint_rows.Goals as goal

pub returns-in-Some : goal.returns-in-Some
returns-in-Some g t c =
    rw (c.in-Some.ensures.cases.0, sym c.as_bytes.ensures.value, sym c.as_bytes-in-Some.ensures.value)
    (reports-more g.E.Sink _ _ _ _ _ c.eprint_row.ensures c.eprint_rows.ensures)
