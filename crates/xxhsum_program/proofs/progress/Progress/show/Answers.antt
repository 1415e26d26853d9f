use Rattle.xxhsum_program.proofs.progress.Progress.show.Goals as goal

pub returns : goal.returns
returns g c = (c.time_of-now.result, c.show_at.ensures)
