use Rattle.xxhsum_app.proofs.Prelude.{◌≡◌, items_of, map, entry_item, take}
use Rattle.xxhsum_app.proofs.audit.digests_of_entries.Given as goal

abbrev pub invariant-loop-line : goal.invariant-loop-line
invariant-loop-line l = items_of l.lines.items ≡ map entry_item (take l.line-index l.entries)
