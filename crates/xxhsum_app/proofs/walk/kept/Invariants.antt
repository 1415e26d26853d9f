use Rattle.xxhsum_app.proofs.Prelude.{◌≡◌, flat_map, kept_name, map, patterns_in, take}
use Rattle.xxhsum_app.proofs.walk.kept.Given as goal

abbrev pub invariant-loop-name : goal.invariant-loop-name
invariant-loop-name l =
    map (λ name. name.items) l.kept.items
    ≡ flat_map (kept_name (patterns_in (map (λ flag. flag.items) l.flags))) (map (λ name. name.items) (take l.name-index l.names))
