-- The meaning of the lines of an audited list.
use Rattle.std.specs.Prelude.{◌≡◌, ◌⊎◌, ℕ, ◌+◌, ◌≤◌, Bool, List, [], ◌∷◌, ◌++◌, length}
use Rattle.xxhsum_app.specs.Prelude.{AllByRecursion, Files, Refusal, SourceRules}
use Rattle.xxhsum_app.specs.Texts.{unopened_text, unread_text}
use Rattle.xxhsum_audit.specs.Item.{Item}
use Rattle.xxhsum_audit.specs.List.{SayAll}
use Rattle.xxhsum_line.specs.Entry.{SaysNothing}
use Rattle.xxhsum_program.specs.CheckList.{EndsAs, EndsWell, ReadsSome}
use Rattle.xxhsum_program.specs.ListEnd.{Endless, FailedRead}
use Rattle.xxhsum_program.specs.ListLines.{IsTooLong, longest_line}
use Rattle.xxhsum_program.specs.ListMessages.{improper_text, too_long_text}

-- None of the lines is too long, and their items are these.
abbrev pub HaveItems : Bool → List (List ℕ) → List Item → Type 0
HaveItems is_little lines items = AllByRecursion (λ line. length line ≤ longest_line) lines × SayAll is_little lines items

-- The source was read to its end, and the items of its lines are these.
abbrev pub SourceSays : {R : Type 0} → SourceRules R → Bool → R → List Item → Type 0
SourceSays reading is_little source items =
    (lines : List (List ℕ)) × EndsWell reading source lines × HaveItems is_little lines items

-- The line of this number is too long, or neither an entry nor a comment. `message` is the message about it.
abbrev pub IsFault : Bool → List ℕ → ℕ → List ℕ → List ℕ → Type 0
IsFault is_little list number line message =
    (IsTooLong line × (message ≡ too_long_text list number))
    ⊎ ((length line ≤ longest_line) × SaysNothing is_little line × (message ≡ improper_text list number))

-- After lines without a fault, a read fails, or a line has no end, or the next line has a fault. `message` is the message.
abbrev pub SourceSaysNothing : {R : Type 0} → SourceRules R → Bool → List ℕ → R → List ℕ → Type 0
SourceSaysNothing reading is_little list source message =
    (lines : List (List ℕ)) × (items : List Item) × HaveItems is_little lines items
    × (((why : List ℕ) × EndsAs reading source lines (FailedRead why) × (message ≡ unread_text list why))
    ⊎ ((EndsAs reading source lines Endless × (message ≡ too_long_text list (length lines + 1)))
    ⊎ ((line : List ℕ) × ReadsSome reading source (lines ++ line ∷ [])
    × IsFault is_little list (length lines + 1) line message)))

-- The list can be read to its end, and the items of its lines are these.
abbrev pub ListSays : {S F : Type 0} → Files S F → Bool → List ℕ → List Item → Type 0
ListSays {S} {F} files is_little list items =
    (file : F) × files.opening.opens files.store list file × SourceSays files.reading is_little file items

-- The list can't be opened, or a read of it fails, or a line has a fault. `message` is the message about it.
abbrev pub ListSaysNothing : {S F : Type 0} → Files S F → Bool → List ℕ → List ℕ → Type 0
ListSaysNothing {S} {F} files is_little list message =
    ((why : Refusal) × files.opening.refuses files.store list why × (message ≡ unopened_text list why))
    ⊎ ((file : F) × files.opening.opens files.store list file × SourceSaysNothing files.reading is_little list file message)
