-- Merged lines and names, with the outcomes of the names.
use Rattle.std.specs.Prelude.{◌≡◌, ℕ, Bool, true, false, List, [], ◌∷◌, ◌++◌, map, flat_map, if◌then◌else◌}
use Rattle.std.specs.List.{list_any}
use Rattle.xxhsum_app.specs.Prelude.{Digested, Files, IsDirectory, Kind, Outcome, Unread}
use Rattle.xxhsum_audit.specs.declared.side.Side.{Side}
use Rattle.xxhsum_audit.specs.declared.side.Side.TheVariants.{Line, Name, Both}
use Rattle.xxhsum_audit.specs.Found.{Found, Missing, New, met}
use Rattle.xxhsum_audit.specs.Item.{Item, Says, kind_of, name_of}
use Rattle.xxhsum_audit.specs.Order.{hides}
use Rattle.xxhsum_program.specs.Lines.{name_messages}
use Rattle.xxhsum_app.specs.Messages.{Messages, Reports}
use Rattle.xxhsum_program.specs.Outcomes.{Comes, is_digested}

-- A line whose name was not given, a line and its given name, or a name that no line has. `Removed` has true if the
-- name of the line is below a directory that can't be read.
pub data Row : Type 0 where
  Removed : Item → Bool → Row
  Met : Item → List ℕ → Outcome → Row
  Added : List ℕ → Outcome → Row

-- The algorithm of a name that no line has: the algorithm of the first line, or `without` if there is no line.
abbrev pub kind_of_new : Kind → List Item → Kind
kind_of_new without [] = without
kind_of_new without (line ∷ lines) = kind_of line

-- True if the name is one of the unreadable directories and names, or below one of them.
abbrev pub is_hidden : List (List ℕ) → List ℕ → Bool
is_hidden lost name = list_any (λ folder. hides folder name) lost

-- The side has this row. A name with a line is digested by the line's algorithm, another name by `kind`.
abbrev pub IsRow : {S F : Type 0} → Files S F → Kind → List (List ℕ) → Side Item (List ℕ) → Row → Type 0
IsRow files kind lost (Line line) row = row ≡ Removed line (is_hidden lost (name_of line))
IsRow files kind lost (Name name) row =
    (outcome : Outcome) × (row ≡ Added name outcome) × Comes files kind name outcome
IsRow files kind lost (Both line name) row =
    (outcome : Outcome) × (row ≡ Met line name outcome) × Comes files (kind_of line) name outcome

-- Each side has a row, in order.
abbrev pub AreRows : {S F : Type 0} → Files S F → Kind → List (List ℕ) → List (Side Item (List ℕ)) → List Row → Type 0
AreRows files kind lost [] rows = rows ≡ []
AreRows files kind lost (side ∷ sides) rows =
    (row : Row) × (rest : List Row) × (rows ≡ row ∷ rest) × IsRow files kind lost side row
    × AreRows files kind lost sides rest

-- ---- the results of rows

-- The name with its digest, if it has one.
abbrev pub digest_of : Kind → List ℕ → Outcome → List Item
digest_of kind name (Digested value) = Says name kind value ∷ []
digest_of kind name IsDirectory = []
digest_of kind name (Unread reason) = []

-- The line of a row. None if its name was given and has no digest, or is below an unreadable directory.
abbrev pub kept_of : Row → List Item
kept_of (Removed line true) = []
kept_of (Removed line false) = line ∷ []
kept_of (Met line name outcome) = map (λ item. line) (digest_of (kind_of line) name outcome)
kept_of (Added name outcome) = []

abbrev pub seen_of : Kind → Row → List Item
seen_of kind (Removed line hidden) = []
seen_of kind (Met line name outcome) = digest_of (kind_of line) name outcome
seen_of kind (Added name outcome) = digest_of kind name outcome

-- The result of a row, by path.
abbrev pub first_of : Kind → Row → List Found
first_of kind (Removed line true) = []
first_of kind (Removed line false) = Missing line ∷ []
first_of kind (Met line name outcome) = map (met line) (digest_of (kind_of line) name outcome)
first_of kind (Added name outcome) = map New (digest_of kind name outcome)

-- The messages about the name of a row: one if it was given and has no digest.
abbrev pub row_messages : Row → List (List ℕ)
row_messages (Removed line hidden) = []
row_messages (Met line name outcome) = name_messages name outcome
row_messages (Added name outcome) = name_messages name outcome

-- The name, if it has no digest.
abbrev pub unless_digested : List ℕ → Outcome → List (List ℕ)
unless_digested name outcome = if is_digested outcome then [] else name ∷ []

-- The name of a row, if it was given and has no digest, or is below an unreadable directory.
abbrev pub unread_of : Row → List (List ℕ)
unread_of (Removed line true) = name_of line ∷ []
unread_of (Removed line false) = []
unread_of (Met line name outcome) = unless_digested name outcome
unread_of (Added name outcome) = unless_digested name outcome

abbrev pub kept_in : List Row → List Item
kept_in rows = flat_map kept_of rows

abbrev pub seen_in : Kind → List Row → List Item
seen_in kind rows = flat_map (seen_of kind) rows

abbrev pub first_in : Kind → List Row → List Found
first_in kind rows = flat_map (first_of kind) rows

abbrev pub messages_in : List Row → List (List ℕ)
messages_in rows = flat_map row_messages rows

abbrev pub unread_in : List Row → List (List ℕ)
unread_in rows = flat_map unread_of rows

-- The first sides have these rows, and the messages of the rows were reported.
abbrev pub ReportsRows : {S F E : Type 0} → Files S F → Messages E → Kind → List (List ℕ) → List (Side Item (List ℕ)) → List Row → Type 0
ReportsRows files messages kind lost sides rows =
    (done rest : List (Side Item (List ℕ))) × (sides ≡ done ++ rest) × AreRows files kind lost done rows
    × Reports messages (messages_in rows)
