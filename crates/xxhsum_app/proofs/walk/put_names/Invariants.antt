use Rattle.xxhsum_app.proofs.Prelude.{◌++◌, ◌-◌, ◌≡◌, below, drop, length, map, waiting_in}
use Rattle.xxhsum_app.proofs.walk.put_names.Given as goal

-- Invariant: the last `at` names are on top of the names that waited before
abbrev pub invariant-loop-at : goal.invariant-loop-at
invariant-loop-at l =
    waiting_in l.waiting.items
    ≡ map (below l.folder l.fn.is_given) (map (λ name. name.items) (drop (length l.names - l.at) l.names)) ++ waiting_in l.initial.waiting.items
