use Rattle.xxhsum_program.proofs.process.conclude.Goals as goal

pub returns-in-Err-clause-reports : goal.returns-in-Err-clause-reports
returns-in-Err-clause-reports g c = rw c.in-Err.is (rw c.line_of.ensures at c.eprint.ensures)
