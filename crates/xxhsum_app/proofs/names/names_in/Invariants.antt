use Rattle.xxhsum_app.proofs.Prelude.{AreNamesIn, map, take}
use Rattle.xxhsum_app.proofs.names.names_in.Given as goal

abbrev pub invariant-loop-text : goal.invariant-loop-text
invariant-loop-text l =
    AreNamesIn l.end (map (λ text. text.items) (take l.text-index l.texts)) (map (λ name. name.items) l.names.items)
