-- The findings of a list's lines, and the report of them.
use Rattle.std.specs.Prelude.{◌≡◌, ℕ, ◌+◌, ◌-◌, ◌≤◌, ◌^◌, Bool, true, false, ◌&&◌, List, [], ◌∷◌, length, min, if◌then◌else◌}
use Rattle.xxhsum_line.specs.Entry.{Says, SaysNothing, is_comment}
use Rattle.xxhsum_program.specs.Prelude.{Files, Found, Kind, Report}
use Rattle.xxhsum_program.specs.declared.entry.Found.TheVariants.{Same, Different, Unread}
use Rattle.xxhsum_program.specs.Found.{IsFound}
use Rattle.xxhsum_program.specs.ListLines.{IsTooLong, longest_line}
use Rattle.xxhsum_program.specs.Outcomes.{has_no_file}

-- The finding of a line: a comment, malformed, too long to be checked, or an entry with the state of its file.
pub data Finding : Type 0 where
  Ignored : Finding
  Improper : Finding
  TooLong : Finding
  Proper : List ℕ → Found → Finding

-- The line has this finding. A line that is too long is not parsed.
abbrev pub IsFinding : {S F : Type 0} → Files S F → Bool → List ℕ → Finding → Type 0
IsFinding files is_little line Ignored = (length line ≤ longest_line) × (is_comment line ≡ true)
IsFinding files is_little line Improper = (length line ≤ longest_line) × SaysNothing is_little line
IsFinding files is_little line TooLong = IsTooLong line
IsFinding files is_little line (Proper name found) =
    (length line ≤ longest_line) × (kind : Kind) × (value : ℕ) × Says is_little line kind value name
    × IsFound files kind value name found

-- The count plus 1, saturating at 2^64 - 1.
abbrev pub one_more : ℕ → ℕ
one_more count = min (count + 1) (2 ^ 64 - 1)

-- A well-formed line is counted by the state of its file. A missing file is not counted if missing files are ignored.
abbrev pub count_found : Bool → Report → Found → Report
count_found ignores report Same = record report { same = one_more report.same }
count_found ignores report Different = record report { different = one_more report.different }
count_found ignores report (Unread reason) =
    if ignores && has_no_file reason then report else record report { unread = one_more report.unread }

abbrev pub count_proper : Bool → Report → Found → Report
count_proper ignores report found = count_found ignores (record report { proper = one_more report.proper }) found

-- A comment is not counted. A line that is too long counts as malformed, and the list is broken there: the name of its
-- file is unknown.
abbrev pub count_one : Bool → Report → Finding → Report
count_one ignores report Ignored = report
count_one ignores report Improper = record report { improper = one_more report.improper }
count_one ignores report TooLong = record report { improper = one_more report.improper; is_broken = true }
count_one ignores report (Proper name found) = count_proper ignores report found

-- ---- the report of all lines

abbrev pub no_findings : Report
no_findings = record { proper = 0; improper = 0; unread = 0; same = 0; different = 0; is_broken = false }

abbrev pub add_up : Bool → Report → List Finding → Report
add_up ignores report [] = report
add_up ignores report (finding ∷ findings) = add_up ignores (count_one ignores report finding) findings

abbrev pub report_of : Bool → List Finding → Report
report_of ignores findings = add_up ignores no_findings findings

-- The report, marked as broken.
abbrev pub with_broken_end : Report → Report
with_broken_end report = record report { is_broken = true }
