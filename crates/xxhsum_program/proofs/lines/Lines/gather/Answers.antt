use Rattle.xxhsum_program.proofs.LineFacts.{fails-alike}
use Rattle.xxhsum_program.proofs.lines.Lines.gather.Goals as goal

pub returns-in_err-refill-clause-reads : goal.returns-in_err-refill-clause-reads
returns-in_err-refill-clause-reads g c = λ from done read.
    fails-alike g.R.Source from done c.refill.new.self _ _ (c.in_err-refill.ensures.reads from done (c.loop-found.invariant.reads from done read)) c.from_residual.ensures.1
