use Rattle.std.proofs.Common.{rules}
use Rattle.xxhsum_app.proofs.Prelude.{refl, source_of, unread_text}
use Rattle.xxhsum_app.proofs.ProgressTextFacts.{inner-breaks, inner-text}
use Rattle.xxhsum_app.proofs.texts.text_of.Goals as goal

pub returns-in-Some : goal.returns-in-Some
returns-in-Some g c =
    (inner-text g.R.Source c.args.source c.in-Some.text.items (c.read_text.new.source, search rules), refl)

pub returns : goal.returns
returns g c =
    let name = c.args.name.now in
    let message = unread_text name (g.R.Source.reason (source_of c.read_text.new.source)) in
    (message, inner-breaks g.R.Source name message c.args.source (c.read_text.new.source, search rules, refl), rw c.failure.ensures at c.eprint_unread.ensures)
