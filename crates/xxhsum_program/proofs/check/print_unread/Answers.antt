use Rattle.xxhsum_program.proofs.check.print_unread.Goals as goal

pub returns-clause-prints : goal.returns-clause-prints
returns-clause-prints g c = rw (c.as_bytes-digits.ensures.value, c.format.ensures.text) at c.print_line.ensures.prints
