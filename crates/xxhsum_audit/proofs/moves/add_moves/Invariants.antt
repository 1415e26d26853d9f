use Rattle.xxhsum_audit.proofs.Prelude.{◌≡◌, ◌++◌, length, map, moved, with_copy, founds_of, items_of, by_digest}
use Rattle.xxhsum_audit.proofs.moves.add_moves.Given as goal

-- Invariant: the results so far, followed by those of the remaining items, are the final results
abbrev pub invariant-loop-side : goal.invariant-loop-side
invariant-loop-side l =
    founds_of l.found.items ++ map (with_copy (items_of l.kept)) (moved (items_of l.removed_left) (items_of l.added_left))
    ≡ founds_of l.initial.found.items ++ map (with_copy (items_of l.kept)) (moved (items_of l.fn.removed) (items_of l.fn.added))

abbrev pub decreases-loop-side : goal.decreases-loop-side
decreases-loop-side l = length (by_digest (items_of l.removed_left) (items_of l.added_left))
