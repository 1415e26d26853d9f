-- The end of a list's lines, and the report of a list with this end.
use Rattle.std.specs.Prelude.{ℕ, Bool, List}
use Rattle.xxhsum_program.specs.declared.check.Report.{Report}
use Rattle.xxhsum_program.specs.Findings.{Finding, report_of, with_broken_end}

-- The end of the list, the largest line number, a line without an end, or a read that failed, with the system's message.
pub data ListEnd : Type 0 where
  Whole : ListEnd
  TooMany : ListEnd
  Endless : ListEnd
  FailedRead : List ℕ → ListEnd

-- The report of the findings. If the list breaks off after them, it is marked as broken.
abbrev pub report_at : Bool → ListEnd → List Finding → Report
report_at ignores Whole findings = report_of ignores findings
report_at ignores TooMany findings = report_of ignores findings
report_at ignores Endless findings = with_broken_end (report_of ignores findings)
report_at ignores (FailedRead why) findings = with_broken_end (report_of ignores findings)
