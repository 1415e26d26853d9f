use Rattle.xxh_io.proofs.MemoryPieces.{Consumes-pieces}
use Rattle.xxh_io.proofs.from_read.reader_pieces.Goals as goal

pub returns : goal.returns
returns g c = Consumes-pieces (λ s. g.R.Read.remaining s.inner) _ (λ s piece t step. step.0)
