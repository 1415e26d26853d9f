use Rattle.xxhsum_audit.proofs.Prelude.{◌≡◌, ◌≤◌, take, count_by, founds_of, is_of_class}
use Rattle.xxhsum_audit.proofs.verdict.count_of.Given as goal

abbrev pub invariant-loop-verdict : goal.invariant-loop-verdict
invariant-loop-verdict l = record {
  counted : l.count ≡ count_by (is_of_class l.class) (founds_of (take l.verdict-index l.verdicts));
  within : l.count ≤ l.verdict-index;
}
