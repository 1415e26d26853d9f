use Rattle.xxhsum_app.proofs.Prelude.{◌≡◌, are_same, drop, founds_of}
use Rattle.xxhsum_app.proofs.report.are_same.Given as goal

abbrev pub invariant-loop-verdict : goal.invariant-loop-verdict
invariant-loop-verdict l = are_same (founds_of l.found) ≡ are_same (founds_of (drop l.verdict-index l.found))
