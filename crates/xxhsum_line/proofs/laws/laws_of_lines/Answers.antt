use Rattle.xxhsum_line.proofs.EntryFacts.{says_same}
use Rattle.xxhsum_line.proofs.EscapeFacts.{escape_is_undone, plain_names_stay}
use Rattle.xxhsum_line.proofs.PartFacts.{plain_same, tagged_same, not_both}
use Rattle.xxhsum_line.proofs.PrintedFacts.{digests_differ, message_is_one_line, plain_texts_stay, printed_is_accepted, printed_is_no_comment, printed_is_one_line}
use Rattle.xxhsum_line.proofs.laws.laws_of_lines.Goals as goal

pub returns : goal.returns
returns c = record {
  printed_is_accepted = printed_is_accepted;
  printed_is_one_line = printed_is_one_line;
  message_is_one_line = message_is_one_line;
  plain_texts_stay = plain_texts_stay;
  printed_is_no_comment = printed_is_no_comment;
  escape_is_undone = escape_is_undone;
  plain_names_stay = plain_names_stay;
  says_one_thing = λ is_little line kind kind' value value' name name' p q. says_same is_little line kind value name kind' value' name' p q;
  digests_differ = digests_differ;
  plain_parts_are_one = λ line digits digits' name name' p q. plain_same line digits name digits' name' p q;
  tagged_parts_are_one = λ line tag tag' name name' digits digits' p q. tagged_same line tag name digits tag' name' digits' p q;
  not_both_forms = not_both;
}
