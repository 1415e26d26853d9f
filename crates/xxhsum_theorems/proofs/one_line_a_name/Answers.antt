use Rattle.xxhsum_app.specs.Audits.{duplicate_text}
use Rattle.xxhsum_program.specs.Files.{files_of, input_of}
use Rattle.xxhsum_theorems.proofs.HeadlineFacts.{findings_are_lines, line_or_message}
use Rattle.xxhsum_theorems.proofs.LineFacts.{list_message, lists_are_lines, names_message, remark_is_records, report_is_lines, report_is_records}
use Rattle.xxhsum_theorems.proofs.one_line_a_name.Goals as goal

pub returns : goal.returns
returns g c =
    let printed = c.laws_of_lines.ensures.printed_is_one_line in
    let message = c.laws_of_lines.ensures.message_is_one_line in
    record {
      names = λ kind shape name outcome. line_or_message printed message kind shape name outcome;
      findings = λ options list number finding. findings_are_lines message options list number finding;
      lines = message;
      checks = λ options list outcome. lists_are_lines message options list outcome;
      lists = λ store source is_little lists list text. (
        (λ none. list_message (files_of g.S.Store g.S.File.Source store) is_little list text message none),
        (λ none. names_message (files_of g.S.Store g.S.File.Source store) (input_of g.R.Source source) lists text message none),
      );
      twice = λ among name. message (duplicate_text among name);
      audits = c.laws_of_texts.ensures.one_line;
      objects = c.laws_of_texts.ensures.one_object;
      reports = λ options found unread speaks. report_is_lines c.laws_of_texts.ensures.one_line c.laws_of_texts.ensures.one_object options found unread speaks;
      records = remark_is_records;
      reports_of_records = report_is_records;
    }
