use Rattle.xxhsum_app.proofs.texts.eprint_unopened.Goals as goal

pub returns : goal.returns
returns g c = rw c.text.ensures.text at c.eprint_line.ensures
