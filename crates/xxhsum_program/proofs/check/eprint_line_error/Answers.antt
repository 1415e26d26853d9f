use Rattle.xxhsum_program.proofs.check.eprint_line_error.Goals as goal

pub returns : goal.returns
returns g c = rw (c.as_bytes-digits.ensures.value, c.format.ensures.text) at c.eprint_line.ensures
