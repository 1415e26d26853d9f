use Rattle.xxhsum_audit.proofs.Prelude.{◌≡◌, drop, texts_of, find_duplicate}
use Rattle.xxhsum_audit.proofs.order.find_duplicate.Given as goal

abbrev pub invariant-loop-at : goal.invariant-loop-at
invariant-loop-at l = find_duplicate (texts_of l.names) ≡ find_duplicate (texts_of (drop l.at l.names))
