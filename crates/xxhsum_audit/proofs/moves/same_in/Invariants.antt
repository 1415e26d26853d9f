use Rattle.xxhsum_audit.proofs.Prelude.{◌≡◌, take, same_in, founds_of, items_of}
use Rattle.xxhsum_audit.proofs.moves.same_in.Given as goal

abbrev pub invariant-loop-verdict : goal.invariant-loop-verdict
invariant-loop-verdict l = items_of l.kept.items ≡ same_in (founds_of (take l.verdict-index l.matched))
