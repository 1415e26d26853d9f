-- The condition for a good list.
use Rattle.std.specs.Prelude.{Bool, ◌&&◌, ◌||◌, not, nat_eq, nat_lt}
use Rattle.xxhsum_program.specs.Prelude.{Options, Report}

-- True if the list has a well-formed line, each file was read and has its value, the list is not broken, and, if the
-- check is strict, no line is malformed.
abbrev pub is_good : Bool → Report → Bool
is_good is_strict report =
    nat_lt 0 report.proper && nat_eq report.different 0 && nat_eq report.unread 0
    && (not is_strict || nat_eq report.improper 0) && not report.is_broken

-- True if the list has no well-formed line, and didn't break off before its first line except comments.
abbrev pub has_no_line : Report → Bool
has_no_line report = nat_eq report.proper 0 && not (report.is_broken && nat_eq report.improper 0)

-- True if no file has its value, and missing files are ignored.
abbrev pub is_unverified : Bool → Report → Bool
is_unverified ignores report = ignores && nat_eq report.same 0

-- True if the list is good, by these options.
abbrev pub passes : Options → Report → Bool
passes options report = is_good options.is_strict report && not (is_unverified options.ignores_missing report)
