use Rattle.xxhsum_audit.proofs.Prelude.{◌≡◌, length, normalize_path}
use Rattle.xxhsum_audit.proofs.order.normalize_path.Given as goal

abbrev pub invariant-loop-behind : goal.invariant-loop-behind
invariant-loop-behind l = normalize_path l.name ≡ normalize_path l.rest

abbrev pub decreases-loop-behind : goal.decreases-loop-behind
decreases-loop-behind l = length l.rest
