use Rattle.xxhsum_audit.proofs.Prelude.{◌≡◌, take, items_of, names_of, texts_of}
use Rattle.xxhsum_audit.proofs.order.names_of.Given as goal

abbrev pub invariant-loop-one : goal.invariant-loop-one
invariant-loop-one l = texts_of l.names.items ≡ names_of (items_of (take l.one-index l.digests))
