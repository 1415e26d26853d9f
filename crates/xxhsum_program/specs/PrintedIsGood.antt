-- The output of a hashing run, and its check with the same files.
use Rattle.std.specs.Prelude.{◌≡◌, ℕ, ◌-◌, ◌<◌, ◌≤◌, ◌^◌, false, true, List, Some, [], ◌∷◌, length}
use Rattle.xxhsum_program.specs.Prelude.{AllByRecursion, Digested, EachHas, Files, IsDirectory, Kind, Lacks, Options, Outcome, Reason, Shape, SourceRules, StoreRules, Style, Unread, files_of}
use Rattle.xxhsum_program.specs.CheckList.{FindsLines, is_good_list}
use Rattle.xxhsum_program.specs.Findings.{Finding, IsFinding}
use Rattle.xxhsum_program.specs.HashNames.{name_events}
use Rattle.xxhsum_program.specs.Lines.{lines_of}
use Rattle.xxhsum_program.specs.ListEnd.{ListEnd}
use Rattle.xxhsum_program.specs.Order.{printed_of}
use Rattle.xxhsum_program.specs.Outcomes.{Comes, HasNoValue, IsValueOf}
use Rattle.xxhsum_program.specs.PrintedList.{Holds, Listed}

-- Lines of this form, which end with a newline.
abbrev pub plain_style : Shape → Style
plain_style shape = record { shape = shape; ends_in_nul = false }

-- The entries of the printed lines: the names with a value.
abbrev pub entries_of : Kind → Shape → List (List ℕ) → List Outcome → List Listed
entries_of kind shape [] outcomes = []
entries_of kind shape (name ∷ names) [] = []
entries_of kind shape (name ∷ names) (Digested value ∷ outcomes) =
    record { kind = kind; shape = shape; value = value; name = name } ∷ entries_of kind shape names outcomes
entries_of kind shape (name ∷ names) (IsDirectory ∷ outcomes) = entries_of kind shape names outcomes
entries_of kind shape (name ∷ names) (Unread reason ∷ outcomes) = entries_of kind shape names outcomes

-- The files don't change: a name with a value has no other value, and no reason to have none.
abbrev pub FilesStay : {S F : Type 0} → Files S F → Kind → Type 0
FilesStay files kind =
    (name : List ℕ) (value : ℕ) → IsValueOf files kind name value
    → ((other : ℕ) → IsValueOf files kind name other → other ≡ value)
    × ((reason : Reason) → ¬ HasNoValue files name reason)

-- The name has no NUL and at most 16,359 bytes. Each name of the system is like that.
abbrev pub IsName : List ℕ → Type 0
IsName name = Lacks 0 name × (length name ≤ 16359)

-- A list of the printed lines is good if its check ends, with any options. The names are as above and have these
-- outcomes, at least one of them a value, and the files don't change.
abbrev pub PrintedIsGood : {S F R : Type 0} → StoreRules S F → SourceRules F → SourceRules R → Type 0
PrintedIsGood {S} {F} {R} opening reading list_reading =
    (store : S) (kind : Kind) (shape : Shape) (names : List (List ℕ)) (outcomes : List Outcome) (source : R)
    → (findings : List Finding) (end : ListEnd) (options : Options)
    → EachHas (Comes (files_of opening reading store) kind) names outcomes
    → FilesStay (files_of opening reading store) kind
    → AllByRecursion IsName names
    → 0 < length (entries_of kind shape names outcomes)
    → length (entries_of kind shape names outcomes) < 2 ^ 64 - 2
    → Holds list_reading source (printed_of (lines_of (name_events kind (plain_style shape)) names outcomes))
    → FindsLines (IsFinding (files_of opening reading store) shape.is_little) list_reading source
    findings (Some end)
    → is_good_list options findings (Some end) ≡ true
