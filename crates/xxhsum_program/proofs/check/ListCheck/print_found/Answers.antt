use Rattle.xxhsum_program.proofs.check.ListCheck.print_found.Goals as goal

pub returns-in-Unread-clause-prints : goal.returns-in-Unread-clause-prints
returns-in-Unread-clause-prints g c = rw c.in-Unread.is (rw c.text.ensures at c.print_unread.ensures.prints)
