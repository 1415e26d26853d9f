use Rattle.xxh_io.proofs.MemoryPieces.{Appends-pieces}
use Rattle.xxh_io.proofs.from_write.writer_pieces.Goals as goal

pub returns : goal.returns
returns g c = Appends-pieces (λ s. g.W.Write.contents s.inner) _ (λ s piece t step. step)
