-- Laws of an audit.
use Rattle.std.specs.Prelude.{ℕ, ◌≡◌, ◌+◌, false, List, length, count_by, IsPermutation}
use Rattle.std.specs.Ordering.{is_lt}
use Rattle.xxhsum_audit.specs.declared.verdict.Class.TheVariants as Of
use Rattle.xxhsum_audit.specs.Audit.{IsAudit, IsDuplicate}
use Rattle.xxhsum_audit.specs.Found.{Changed, Copied, Found, Missing, Moved, New, Same, is_of_class, lines_in, names_in}
use Rattle.xxhsum_audit.specs.Item.{HasSameDigest, IsAmong, Item, LacksPath, path_of}
use Rattle.xxhsum_audit.specs.Order.{rank_lines}

-- Each line has exactly one result, and no other line has one. The same is true of names.
abbrev pub TellsEachLineOnce : Type 0
TellsEachLineOnce =
    (lines names : List Item) (found : List Found) → IsAudit lines names found → IsPermutation lines (lines_in found)

abbrev pub TellsEachNameOnce : Type 0
TellsEachNameOnce =
    (lines names : List Item) (found : List Found) → IsAudit lines names found → IsPermutation names (names_in found)

-- No two lines of an audit share a path, and no two names do.
abbrev pub HasNoDuplicate : Type 0
HasNoDuplicate =
    (lines names : List Item) (found : List Found) (path : List ℕ) → IsAudit lines names found
    → (IsDuplicate lines path → ⊥) × (IsDuplicate names path → ⊥)

-- The line and the name have the same path and the same digest.
abbrev pub IsKept : Item → Item → Type 0
IsKept line name = (path_of line ≡ path_of name) × HasSameDigest line name

-- The name is among the names, and a line has its path and its digest.
abbrev pub StaysSame : List Item → List Item → Item → Type 0
StaysSame lines names name = IsAmong names name × ((line : Item) × IsAmong lines line × IsKept line name)

-- The result is correct, by the meaning of its class.
abbrev pub IsRight : List Item → List Item → Found → Type 0
IsRight lines names (Same line name) = IsKept line name
IsRight lines names (Changed line name) = (path_of line ≡ path_of name) × (HasSameDigest line name → ⊥)
IsRight lines names (Moved line name) =
    HasSameDigest line name × LacksPath names (path_of line) × LacksPath lines (path_of name)
IsRight lines names (Copied first name) =
    HasSameDigest first name × StaysSame lines names first × LacksPath lines (path_of name)
IsRight lines names (New name) = LacksPath lines (path_of name)
IsRight lines names (Missing line) = LacksPath names (path_of line)

abbrev pub TellsRight : Type 0
TellsRight =
    (lines names : List Item) (found : List Found) → IsAudit lines names found
    → (one : Found) → IsAmong found one → IsRight lines names one

-- A name with the digest of a missing line is reported neither as new nor as a copy.
abbrev pub LeavesNoMove : Type 0
LeavesNoMove =
    (lines names : List Item) (found : List Found) → IsAudit lines names found
    → (line first name : Item) → IsAmong found (Missing line) → HasSameDigest line name
    → (IsAmong found (New name) → ⊥) × (IsAmong found (Copied first name) → ⊥)

-- A name with the digest of an unchanged file is not reported as new.
abbrev pub LeavesNoCopy : Type 0
LeavesNoCopy =
    (lines names : List Item) (found : List Found) → IsAudit lines names found
    → (line kept name : Item) → IsAmong found (Same line kept) → IsAmong found (New name) → HasSameDigest kept name → ⊥

-- The original of a copy is the first unchanged file with its digest, in the order of names.
abbrev pub CopiesTheFirst : Type 0
CopiesTheFirst =
    (lines names : List Item) (found : List Found) → IsAudit lines names found
    → (line kept first name : Item) → IsAmong found (Same line kept) → IsAmong found (Copied first name)
    → HasSameDigest kept name → is_lt (rank_lines kept first) ≡ false

-- If all results are `Same`, each line has a name with its digest and its path, and each name has such a line.
abbrev pub SameMeansEqual : Type 0
SameMeansEqual =
    (lines names : List Item) (found : List Found) → IsAudit lines names found
    → ((one : Found) → IsAmong found one → (line name : Item) × (one ≡ Same line name))
    → ((line : Item) → IsAmong lines line → (name : Item) × IsAmong names name × IsKept line name)
    × ((name : Item) → IsAmong names name → (line : Item) × IsAmong lines line × IsKept line name)

-- The counts of the classes that have lines add up to the number of lines. The same is true of names.
abbrev pub CountsAddUp : Type 0
CountsAddUp =
    (found : List Found)
    → (length (lines_in found)
    ≡ count_by (is_of_class Of.Same) found + count_by (is_of_class Of.Changed) found
    + count_by (is_of_class Of.Moved) found + count_by (is_of_class Of.Missing) found)
    × (length (names_in found)
    ≡ count_by (is_of_class Of.Same) found + count_by (is_of_class Of.Changed) found
    + count_by (is_of_class Of.Moved) found + count_by (is_of_class Of.Copied) found
    + count_by (is_of_class Of.New) found)

-- The results don't depend on the order of the lines and of the names.
abbrev pub IsOneReport : Type 0
IsOneReport =
    (lines lines' names names' : List Item) (found found' : List Found) → IsAudit lines names found
    → IsAudit lines' names' found' → IsPermutation lines lines' → IsPermutation names names' → found ≡ found'
