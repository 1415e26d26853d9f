use Rattle.xxhsum_audit.proofs.Prelude.{◌∷◌, [], ap, append-nil, map, subst, sym, ◌∙◌, map-append}
use Rattle.xxhsum_line.specs.Meaning.{Means}
use Rattle.xxhsum_audit.specs.List.{entry_item}
use Rattle.xxhsum_audit.proofs.list.take_line.Goals as goal

pub returns-in_ok-push-in-Entry : goal.returns-in_ok-push-in-Entry
returns-in_ok-push-in-Entry c =
    let says = subst (Means c.args.is_little c.args.line.now) c.in-Entry.is c.in_ok-entry.ensures.meaning in (
      entry_item c.in-Entry.entry ∷ [],
      ap (λ xs. map entry_item xs) c.in_ok-push-in-Entry.ensures.items ∙ map-append entry_item c.args.entries.now.items (c.in-Entry.entry ∷ []),
      says,
    )

pub returns-in-Comment : goal.returns-in-Comment
returns-in-Comment c = (
  [],
  sym (append-nil (map entry_item c.args.entries.now.items)),
  subst (Means c.args.is_little c.args.line.now) c.in-Comment.is c.in_ok-entry.ensures.meaning,
)
