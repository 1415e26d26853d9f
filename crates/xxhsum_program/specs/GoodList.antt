-- Laws of good lists, and of lines that are printed as OK.
use Rattle.std.specs.Prelude.{◌≡◌, ◌⊎◌, ◌++◌, ℕ, Bool, true, List, Option, codes}
use Rattle.xxhsum_program.specs.Prelude.{AllByRecursion, Files, Kind, Options, Refusal, SourceRules, StoreRules, files_of, one_line}
use Rattle.xxh_io.specs.Refusal.{is_missing}
use Rattle.xxhsum_line.specs.Entry.{Says, SaysNothing, is_comment}
use Rattle.xxhsum_program.specs.CheckList.{FindsLines, MeetsLines, is_good_list}
use Rattle.xxhsum_program.specs.Findings.{Finding, IsFinding}
use Rattle.xxhsum_program.specs.ListEnd.{ListEnd}
use Rattle.xxhsum_program.specs.ListMessages.{finding_events}
use Rattle.xxhsum_program.specs.Order.{printed_of}
use Rattle.xxhsum_program.specs.Outcomes.{IsValueOf}

-- There is no file of this name, and missing files are ignored.
abbrev pub IsPassedOver : {S F : Type 0} → Files S F → Bool → List ℕ → Type 0
IsPassedOver files ignores name =
    (ignores ≡ true) × (refusal : Refusal) × files.opening.refuses files.store name refusal × (is_missing refusal ≡ true)

-- The line is a comment, or malformed, or its file has its value, or its file is missing and missing files are ignored.
abbrev pub IsWell : {S F : Type 0} → Files S F → Options → List ℕ → Type 0
IsWell files options line =
    (is_comment line ≡ true)
    ⊎ (SaysNothing options.is_little_endian line
    ⊎ ((kind : Kind) × (value : ℕ) × (name : List ℕ) × Says options.is_little_endian line kind value name
    × (IsValueOf files kind name value ⊎ IsPassedOver files options.ignores_missing name)))

-- If the lines of a list were checked and it is good, each line is as `IsWell` states.
abbrev pub GoodMeansEqual : {S F R : Type 0} → StoreRules S F → SourceRules F → SourceRules R → Type 0
GoodMeansEqual {S} {F} {R} opening reading list_reading =
    (store : S) (options : Options) (source : R) (findings : List Finding) (end : Option ListEnd)
    → FindsLines (IsFinding (files_of opening reading store) options.is_little_endian) list_reading source findings end
    → is_good_list options findings end ≡ true
    → (lines : List (List ℕ)) × MeetsLines list_reading source lines end
    × AllByRecursion (IsWell (files_of opening reading store) options) lines

-- A line is printed as "NAME: OK" only if it is an entry with this name, and its file has its value by its algorithm.
abbrev pub OkMeansEqual : {S F : Type 0} → StoreRules S F → SourceRules F → Type 0
OkMeansEqual {S} opening reading =
    (store : S) (options : Options) (list : List ℕ) (number : ℕ) (line : List ℕ) (finding : Finding) (name : List ℕ)
    → IsFinding (files_of opening reading store) options.is_little_endian line finding
    → printed_of (finding_events options list number finding) ≡ one_line (name ++ codes ": OK")
    → (kind : Kind) × (value : ℕ) × Says options.is_little_endian line kind value name
    × IsValueOf (files_of opening reading store) kind name value
