use Rattle.xxhsum_program.proofs.PrintedListFacts.{checks_printed, finds_printed_files, finds_printed_lines, holds_printed_lines, reads_printed_lines, short_names_fit, slices_hold}
use Rattle.xxhsum_program.proofs.printed_lists.laws_of_printed_lists.Goals as goal

pub returns : goal.returns
returns g c = record {
  finds_lines = finds_printed_lines;
  reads_lines = λ is_little entries source end pieces all some read are. reads_printed_lines g.R.Source is_little entries source end pieces all some read are;
  holds_lines = λ is_little entries source all holds. holds_printed_lines g.R.Source is_little entries source all holds;
  finds_files = λ store is_little entries findings all each. finds_printed_files g.S.Store g.S.File.Source store is_little entries findings all each;
  checks = λ store is_little entries source findings end all few holds finds. checks_printed g.S.Store g.S.File.Source g.R.Source store is_little entries source findings end all few holds finds;
  short_names = short_names_fit;
  slices_hold = slices_hold;
}
