use Rattle.xxhsum_app.proofs.Prelude.{◌≡◌, map, take, texts_of}
use Rattle.xxhsum_app.proofs.audit.borrowed_names.Given as goal

abbrev pub invariant-loop-name : goal.invariant-loop-name
invariant-loop-name l = texts_of l.requested.items ≡ map (λ name. name.items) (take l.name-index l.names)
