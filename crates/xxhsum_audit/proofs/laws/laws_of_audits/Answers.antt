use Rattle.xxhsum_audit.proofs.AuditFacts.{copies_the_first, has_no_duplicate, is_one_report, leaves_no_copy, leaves_no_move, tells_each_line_once, tells_each_name_once, tells_right}
use Rattle.xxhsum_audit.proofs.CountFacts.{counts_add_up}
use Rattle.xxhsum_audit.proofs.EqualFacts.{same_means_equal}
use Rattle.xxhsum_audit.proofs.laws.laws_of_audits.Goals as goal

pub returns : goal.returns
returns c = record {
  lines = tells_each_line_once;
  names = tells_each_name_once;
  no_duplicate = has_no_duplicate;
  right = tells_right;
  no_move = leaves_no_move;
  no_copy = leaves_no_copy;
  first = copies_the_first;
  equal = same_means_equal;
  counts = counts_add_up;
  one_report = is_one_report;
}
