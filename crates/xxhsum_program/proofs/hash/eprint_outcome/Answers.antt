use Rattle.xxhsum_program.proofs.Prelude.{[]}
use Rattle.xxhsum_program.proofs.EprintFacts.{reports-more, reports-nothing}
use Rattle.xxhsum_program.proofs.hash.eprint_outcome.Goals as goal

pub returns-in-IsDirectory : goal.returns-in-IsDirectory
returns-in-IsDirectory g c = rw c.in-IsDirectory.is (reports-more g.E.Sink _ [] _ _ _ c.eprint_line.ensures (reports-nothing g.E.Sink _))

pub returns-in-Unread : goal.returns-in-Unread
returns-in-Unread g c = rw c.in-Unread.is (reports-more g.E.Sink _ [] _ _ _ (rw (c.step.ensures, c.text.ensures) at c.eprint_line-in-Unread.ensures) (reports-nothing g.E.Sink _))
