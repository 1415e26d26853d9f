use Rattle.xxhsum_line.proofs.Prelude.{subst, Means}
use Rattle.xxhsum_line.proofs.EntryFacts.{not_other, says_same}
use Rattle.xxhsum_line.proofs.laws.is_read_as.Goals as goal

pub returns-in-Entry : goal.returns-in-Entry
returns-in-Entry c =
    let line = c.args.text.now in
    let entry = c.in-Entry.entry in
    let says = subst (Means c.args.is_little line) c.in-Entry.is c.in_ok-entry.ensures.meaning in
    let same = says_same c.args.is_little line entry.kind entry.value entry.name.items c.args.kind c.args.value c.args.name.now says c.requires in
    c.is_same.ensures same.0 same.1 same.2

pub returns-in-Comment : goal.returns-in-Comment
returns-in-Comment c =
    absurd (not_other c.args.is_little c.args.text.now c.args.kind c.args.value c.args.name.now c.in_ok-entry.field-0 c.in-Comment.is c.in_ok-entry.ensures.meaning c.requires)
