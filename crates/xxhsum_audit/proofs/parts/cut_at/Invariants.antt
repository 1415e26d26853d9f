use Rattle.xxhsum_audit.proofs.Prelude.{length, map}
use Rattle.xxhsum_audit.proofs.PartFacts.{Stands}
use Rattle.xxhsum_audit.proofs.parts.cut_at.Given as goal

abbrev pub invariant-loop-part : goal.invariant-loop-part
invariant-loop-part l = Stands l.end l.bytes (map (λ part. part.now) l.parts.items) l.left

abbrev pub decreases-loop-part : goal.decreases-loop-part
decreases-loop-part l = length l.left
