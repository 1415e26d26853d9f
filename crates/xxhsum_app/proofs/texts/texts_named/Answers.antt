use Rattle.std.proofs.Common.{sym, ◌∙◌}
use Rattle.xxhsum_app.proofs.texts.texts_named.Goals as goal

pub returns-then-has_none : goal.returns-then-has_none
returns-then-has_none g c = rw (sym c.has_none.ensures ∙ c.if-has_none.true) c.text_of_input.ensures

pub returns : goal.returns
returns g c = rw (sym c.has_none.ensures ∙ c.if-has_none.false) c.texts_of_files.ensures
