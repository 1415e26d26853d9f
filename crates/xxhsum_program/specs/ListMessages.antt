-- The events of the check of a list, by the options and the findings. Each result and message is one line, whatever bytes
-- the names have. Lines of a list are numbered from 1.
use Rattle.std.specs.Prelude.{ℕ, ◌+◌, Bool, List, [], ◌∷◌, ◌++◌, Option, Some, None, ◌&&◌, ◌||◌, codes, decimal, length, nat_eq, if◌then◌else◌}
use Rattle.xxhsum_program.specs.Prelude.{Found, Options, Refusal, Report, concat, one_line}
use Rattle.xxh_io.specs.Refusal.{refusal_text}
use Rattle.xxhsum_program.specs.declared.entry.Found.TheVariants.{Same, Different, Unread}
use Rattle.xxhsum_program.specs.Findings.{Finding, Ignored, Improper, Proper, TooLong}
use Rattle.xxhsum_program.specs.ListEnd.{ListEnd, Whole, TooMany, Endless, FailedRead, report_at}
use Rattle.xxhsum_program.specs.Order.{Event, Printed, Reported}
use Rattle.xxhsum_program.specs.Outcomes.{has_no_file, reason_text}
use Rattle.xxhsum_program.specs.Report.{has_no_line, is_unverified}

-- ---- a line

-- The message about an error in the line of this number.
abbrev pub line_message : List ℕ → ℕ → List ℕ → List ℕ
line_message list number what =
    concat (list ∷ codes ":" ∷ decimal number ∷ codes ": Error: " ∷ what ∷ codes "." ∷ [])

abbrev pub too_long_text : List ℕ → ℕ → List ℕ
too_long_text list number = line_message list number (codes "Line too long")

abbrev pub improper_text : List ℕ → ℕ → List ℕ
improper_text list number = line_message list number (codes "Improperly formatted checksum line")

-- The result of a line whose file could not be read, with the reason.
abbrev pub unread_text : List ℕ → ℕ → List ℕ → List ℕ → List ℕ
unread_text list number name why =
    concat (list ∷ codes ":" ∷ decimal number ∷ codes ": Could not open or read '" ∷ name ∷ codes "': " ∷ why
    ∷ codes "." ∷ [])

-- The result of a line: "OK" if and only if the file has the line's value.
abbrev pub found_text : List ℕ → ℕ → List ℕ → Found → List ℕ
found_text list number name Same = name ++ codes ": OK"
found_text list number name Different = name ++ codes ": FAILED"
found_text list number name (Unread reason) = unread_text list number name (reason_text reason)

-- True if nothing is printed about a file: with `--status`, for a match with `--quiet`, and for a missing file if
-- missing files are ignored.
abbrev pub is_silent : Options → Found → Bool
is_silent options Same = options.is_status_only || options.is_quiet
is_silent options Different = options.is_status_only
is_silent options (Unread reason) = options.is_status_only || (options.ignores_missing && has_no_file reason)

-- The events of a line: its result is printed, or an error in it is reported. A line that is too long is reported with
-- all options.
abbrev pub finding_events : Options → List ℕ → ℕ → Finding → List Event
finding_events options list number Ignored = []
finding_events options list number Improper =
    if options.warns then Reported (improper_text list number) ∷ [] else []
finding_events options list number TooLong = Reported (too_long_text list number) ∷ []
finding_events options list number (Proper name found) =
    if is_silent options found then [] else Printed (one_line (found_text list number name found)) ∷ []

-- The lists of all lines, joined; the first line has this number.
abbrev pub numbered : {T : Type 0} → (ℕ → Finding → List T) → ℕ → List Finding → List T
numbered text number [] = []
numbered text number (finding ∷ findings) = text number finding ++ numbered text (number + 1) findings

-- ---- the end of a list

-- The count with its text in the singular or the plural; nothing for 0.
abbrev pub count_text : ℕ → List ℕ → List ℕ → List ℕ
count_text count one more =
    if nat_eq count 0 then [] else decimal count ++ (if nat_eq count 1 then one else more)

-- The numbers of malformed lines, of unread files and of mismatches.
abbrev pub improper_counted : ℕ → List ℕ
improper_counted count =
    count_text count (codes " line is improperly formatted\n") (codes " lines are improperly formatted\n")

abbrev pub unread_counted : ℕ → List ℕ
unread_counted count =
    count_text count (codes " listed file could not be read\n") (codes " listed files could not be read\n")

abbrev pub different_counted : ℕ → List ℕ
different_counted count =
    count_text count (codes " computed checksum did NOT match\n") (codes " computed checksums did NOT match\n")

abbrev pub printed_summary : Options → Report → List ℕ
printed_summary options report =
    if nat_eq report.proper 0 || options.is_status_only then [] else concat
    (improper_counted report.improper ∷ unread_counted report.unread ∷ different_counted report.different ∷ [])

-- The text that no file of the list was verified, and its line.
abbrev pub unverified_message : List ℕ → List ℕ
unverified_message list = list ++ codes ": no file was verified"

abbrev pub unverified_line : List ℕ → List ℕ
unverified_line list = one_line (unverified_message list)

-- That line, if missing files are ignored and no file matches; with all other options.
abbrev pub unverified_text : Options → List ℕ → Report → List ℕ
unverified_text options list report =
    if is_unverified options.ignores_missing report then unverified_line list else []

-- The bytes printed after the results of the lines.
abbrev pub summary_text : Options → List ℕ → Report → List ℕ
summary_text options list report = printed_summary options report ++ unverified_text options list report

-- The message about a list without a well-formed line.
abbrev pub no_line_text : List ℕ → List ℕ
no_line_text list = list ++ codes ": no properly formatted xxHash checksum lines found"

-- ---- the events of a list, as far as its check has come: to the end of its lines, or to the summary after them

-- The list breaks off at the line of this number.
abbrev pub break_events : List ℕ → ℕ → ListEnd → List Event
break_events list number Whole = []
break_events list number TooMany = []
break_events list number Endless = Reported (too_long_text list number) ∷ []
break_events list number (FailedRead why) = Reported (line_message list number why) ∷ []

-- A list without a well-formed line is reported, unless it broke off before its first line; then the summary is printed.
abbrev pub summary_events : Options → List ℕ → Report → List Event
summary_events options list report =
    (if has_no_line report then Reported (no_line_text list) ∷ [] else [])
    ++ Printed (summary_text options list report) ∷ []

abbrev pub stop_events : Options → List ℕ → List Finding → Option ListEnd → List Event
stop_events options list findings None = []
stop_events options list findings (Some end) =
    break_events list (length findings + 1) end

abbrev pub end_events : Options → List ℕ → List Finding → Option ListEnd → List Event
end_events options list findings None = []
end_events options list findings (Some end) =
    summary_events options list (report_at options.ignores_missing end findings)

-- The events before the summary.
abbrev pub lines_events : Options → List ℕ → List Finding → Option ListEnd → List Event
lines_events options list findings end =
    numbered (finding_events options list) 1 findings ++ stop_events options list findings end

abbrev pub list_events : Options → List ℕ → List Finding → Option ListEnd → List Event
list_events options list findings end = lines_events options list findings end ++ end_events options list findings end

-- The message about a list that can't be opened.
abbrev pub refusal_message : List ℕ → Refusal → List ℕ
refusal_message list refusal =
    concat (codes "Error: Could not open '" ∷ list ∷ codes "': " ∷ refusal_text refusal ∷ [])
