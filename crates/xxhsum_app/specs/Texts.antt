-- The texts of lists: of files, or of the input.
use Rattle.std.specs.Prelude.{◌≡◌, ◌⊎◌, ℕ, Bool, true, false, List, [], ◌∷◌, ◌++◌, codes}
use Rattle.xxhsum_app.specs.Prelude.{EachHas, Files, Input, Refusal, SourceRules, concat}
use Rattle.xxhsum_audit.specs.Read.{BreaksOff, GivesAll}
use Rattle.xxh_io.specs.Refusal.{refusal_text}
use Rattle.xxhsum_program.specs.Run.{input_name}

-- Reads of the source return this text, and then the end of the input.
abbrev pub HasText : {R : Type 0} → SourceRules R → R → List ℕ → Type 0
HasText {R} reading source text = (end : R) × GivesAll reading.gives source end text

abbrev pub unopened_text : List ℕ → Refusal → List ℕ
unopened_text name why =
    concat (codes "Error: Could not open '" ∷ name ∷ codes "': " ∷ refusal_text why ∷ codes "." ∷ [])

abbrev pub unread_text : List ℕ → List ℕ → List ℕ
unread_text name why = concat (codes "Error: Could not read '" ∷ name ∷ codes "': " ∷ why ∷ codes "." ∷ [])

-- A read of the source fails. `message` is the message about it, with the system's.
abbrev pub Breaks : {R : Type 0} → SourceRules R → List ℕ → R → List ℕ → Type 0
Breaks {R} reading name source message =
    (end : R) × BreaksOff reading source end × (message ≡ unread_text name (reading.reason end))

-- The name leads to a file of this text.
abbrev pub GivesText : {S F : Type 0} → Files S F → List ℕ → List ℕ → Type 0
GivesText {S} {F} files name text =
    (file : F) × files.opening.opens files.store name file × HasText files.reading file text

-- The name opens no file, or a read of its file fails. `message` is the message about it.
abbrev pub HasNoText : {S F : Type 0} → Files S F → List ℕ → List ℕ → Type 0
HasNoText {S} {F} files name message =
    ((why : Refusal) × files.opening.refuses files.store name why × (message ≡ unopened_text name why))
    ⊎ ((file : F) × files.opening.opens files.store name file × Breaks files.reading name file message)

-- Each name leads to a file of its text. If there is no name, the input has the only text.
abbrev pub GiveTexts : {S F R : Type 0} → Files S F → Input R → List (List ℕ) → List (List ℕ) → Bool → Type 0
GiveTexts files input names texts true = (text : List ℕ) × HasText input.reading input.source text × (texts ≡ text ∷ [])
GiveTexts files input names texts false = EachHas (GivesText files) names texts

-- A name has no text, and the names before it have texts. `message` is the message about it.
abbrev pub LacksOne : {S F : Type 0} → Files S F → List (List ℕ) → List ℕ → Type 0
LacksOne files names message =
    (before behind texts : List (List ℕ)) × (name : List ℕ) × (names ≡ before ++ name ∷ behind)
    × EachHas (GivesText files) before texts × HasNoText files name message

-- One of the names has no text, and `message` is the message about it. If there is no name, the input has none.
abbrev pub LackText : {S F R : Type 0} → Files S F → Input R → List (List ℕ) → List ℕ → Bool → Type 0
LackText files input names message true = Breaks input.reading input_name input.source message
LackText files input names message false = LacksOne files names message
