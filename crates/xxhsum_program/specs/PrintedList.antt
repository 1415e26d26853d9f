-- A list of printed lines: its lines, and their meanings.
use Rattle.std.specs.Prelude.{◌≡◌, ℕ, ◌-◌, ◌<◌, ◌≤◌, ◌^◌, Bool, true, false, List, Some, [], ◌∷◌, ◌++◌, length, map}
use Rattle.xxhsum_program.specs.Prelude.{AllByRecursion, EachHas, Files, Found, Kind, Lacks, NoneEmpty, Pieces, Shape, SourceRules, StoreRules, concat, files_of}
use Rattle.xxh_io.specs.Kind.{digits_of}
use Rattle.xxhsum_line.specs.Entry.{Says, is_comment}
use Rattle.xxhsum_line.specs.Printed.{line_of, text_of}
use Rattle.xxhsum_program.specs.CheckList.{EndsWell, FindsLines, HasLines, ReadsLines, ReadsSome}
use Rattle.xxhsum_program.specs.ListEnd.{ListEnd, Whole}
use Rattle.xxhsum_program.specs.Findings.{Finding, IsFinding, Proper}
use Rattle.xxhsum_program.specs.Found.{IsFound}
use Rattle.xxhsum_program.specs.ListLines.{CantRead, FailsAfter, longest_line}

-- There are more than 32,767 bytes, and the first 32,767 have no line feed.
abbrev pub BeginsTooLong : List ℕ → Type 0
BeginsTooLong bytes =
    (front rest : List ℕ) × (bytes ≡ front ++ rest) × Lacks 10 front × (longest_line ≤ length front)
    × (longest_line < length bytes)

-- The entry that a line is printed from.
abbrev pub Listed : Type 0
Listed = record { kind : Kind; shape : Shape; value : ℕ; name : List ℕ }

-- The line of an entry, without its line feed.
abbrev pub text_of_listed : Listed → List ℕ
text_of_listed e = text_of e.kind e.shape e.value e.name

-- The lines of all entries, one after another.
abbrev pub printed_list : List Listed → List ℕ
printed_list [] = []
printed_list (e ∷ es) = line_of e.kind e.shape e.value e.name ++ printed_list es

-- The value fits the algorithm, the name has no NUL, and the line has at most 32,767 bytes with its line feed. Its
-- digits have the byte order that the check expects in plain lines.
abbrev pub IsListed : Bool → Listed → Type 0
IsListed is_little e =
    (e.value < 16 ^ digits_of e.kind) × Lacks 0 e.name × (length (text_of_listed e) < longest_line)
    × (e.shape.is_little ≡ is_little)

abbrev pub AreListed : Bool → List Listed → Type 0
AreListed is_little entries = AllByRecursion (IsListed is_little) entries

-- A line with a name of at most 16,359 bytes is short enough.
abbrev pub ShortNamesFit : Type 0
ShortNamesFit =
    (kind : Kind) (shape : Shape) (value : ℕ) (name : List ℕ) → length name ≤ 16359
    → length (text_of kind shape value name) < longest_line

-- ---- the lines

-- The line is the line of this entry. It is no comment, and means this entry and nothing else.
abbrev pub IsLineOf : Bool → List ℕ → Listed → Type 0
IsLineOf is_little line e =
    (line ≡ text_of_listed e) × (is_comment line ≡ false) × Says is_little line e.kind e.value e.name
    × ((kind : Kind) (value : ℕ) (name : List ℕ) → Says is_little line kind value name
    → (kind ≡ e.kind) × (value ≡ e.value) × (name ≡ e.name))

-- The lines that are found in a printed list are the lines of its entries, in their order.
abbrev pub FindsPrintedLines : Type 0
FindsPrintedLines =
    (is_little : Bool) (entries : List Listed) (lines : List (List ℕ)) → AreListed is_little entries
    → HasLines true (printed_list entries) lines [] → EachHas (IsLineOf is_little) lines entries

-- The lines of a source with a printed list are the lines of its entries, however reads split it.
abbrev pub ReadsPrintedLines : {R : Type 0} → SourceRules R → Type 0
ReadsPrintedLines {R} reading =
    (is_little : Bool) (entries : List Listed) (source end : R) (pieces : List (List ℕ)) → AreListed is_little entries
    → NoneEmpty pieces → Pieces reading.gives source (pieces ++ [] ∷ []) end → concat pieces ≡ printed_list entries
    → EndsWell reading source (map text_of_listed entries)

-- ---- the check of a printed list

-- Reads of the source return a prefix of the text, and all of it at the end. None of them fails.
abbrev pub Holds : {R : Type 0} → SourceRules R → R → List ℕ → Type 0
Holds {R} reading source text =
    ((pieces : List (List ℕ)) (met : R) → NoneEmpty pieces → Pieces reading.gives source pieces met
    → ((more : List ℕ) × (text ≡ concat pieces ++ more)) × ((why : List ℕ) → ¬ CantRead reading met why))
    × ((pieces : List (List ℕ)) (end : R) → NoneEmpty pieces → Pieces reading.gives source (pieces ++ [] ∷ []) end
    → concat pieces ≡ text)

-- If the source has ended, its lines are these. Before, the lines read so far are the first of these. No line is too
-- long, and no read fails.
abbrev pub HasJustLines : {R : Type 0} → SourceRules R → R → List (List ℕ) → Type 0
HasJustLines reading source texts =
    ((lines : List (List ℕ)) → EndsWell reading source lines → texts ≡ lines)
    × ((lines : List (List ℕ)) → ReadsSome reading source lines → (others : List (List ℕ)) × (texts ≡ lines ++ others))
    × ((has_ended : Bool) (lines : List (List ℕ)) (rest : List ℕ) → ReadsLines reading source has_ended lines rest
    → ¬ BeginsTooLong rest)
    × ((why bytes : List ℕ) → ¬ FailsAfter reading source why bytes)

-- A source that holds a printed list has the lines of its entries, and no others.
abbrev pub HoldsPrintedLines : {R : Type 0} → SourceRules R → Type 0
HoldsPrintedLines {R} reading =
    (is_little : Bool) (entries : List Listed) (source : R) → AreListed is_little entries
    → Holds reading source (printed_list entries)
    → HasJustLines reading source (map text_of_listed entries)

-- The finding is the state of the entry's file.
abbrev pub IsFindingOf : {S F : Type 0} → Files S F → Listed → Finding → Type 0
IsFindingOf files e finding =
    (found : Found) × (finding ≡ Proper e.name found)
    × IsFound files e.kind e.value e.name found

-- There are as many findings as entries, and each finding belongs to its own entry.
abbrev pub AreFindingsOf : {S F : Type 0} → Files S F → List Listed → List Finding → Type 0
AreFindingsOf files [] [] = Unit {0}
AreFindingsOf files [] (finding ∷ findings) = ⊥
AreFindingsOf files (e ∷ es) [] = ⊥
AreFindingsOf files (e ∷ es) (finding ∷ findings) =
    IsFindingOf files e finding × AreFindingsOf files es findings

-- The findings of the lines of a printed list are the states of its entries' files.
abbrev pub FindsPrintedFiles : {S F : Type 0} → StoreRules S F → SourceRules F → Type 0
FindsPrintedFiles {S} opening reading =
    (store : S) (is_little : Bool) (entries : List Listed) (findings : List Finding) → AreListed is_little entries
    → EachHas (IsFinding (files_of opening reading store) is_little) (map text_of_listed entries) findings
    → AreFindingsOf (files_of opening reading store) entries findings

-- A check of a source that holds a printed list, if it ends, ends at the end of the list. Its findings are exactly the
-- findings of the entries.
abbrev pub ChecksPrinted : {S F R : Type 0} → StoreRules S F → SourceRules F → SourceRules R → Type 0
ChecksPrinted {S} {F} {R} opening reading list_reading =
    (store : S) (is_little : Bool) (entries : List Listed) (source : R) (findings : List Finding) (end : ListEnd)
    → AreListed is_little entries → length entries < 2 ^ 64 - 2
    → Holds list_reading source (printed_list entries)
    → FindsLines (IsFinding (files_of opening reading store) is_little) list_reading source findings
    (Some end)
    → (end ≡ Whole) × AreFindingsOf (files_of opening reading store) entries findings
