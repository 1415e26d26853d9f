-- The digests of names, collected side by side. No public clause uses them.
use Rattle.std.specs.Prelude.{◌≡◌, ℕ, false, List, [], ◌++◌, Option, Some, None, Result, Ok, Err}
use Rattle.std.specs.declared.alloc.AllocError.{AllocError}
use Rattle.xxhsum_app.specs.Prelude.{Digested, Files, Kind, Outcome}
use Rattle.xxhsum_audit.specs.declared.digest.FileDigest.{FileDigest}
use Rattle.xxhsum_audit.specs.declared.moves.Compared.{Compared}
use Rattle.xxhsum_audit.specs.declared.side.Side.{Side}
use Rattle.xxhsum_app.specs.Messages.{Messages, Reports}
use Rattle.xxhsum_app.specs.Rows.{AreRows, ReportsRows, Row, first_in, first_of, messages_in, row_messages, unread_in, unread_of}
use Rattle.xxhsum_audit.specs.Audit.{matched_in, missing_in, new_in}
use Rattle.xxhsum_audit.specs.Found.{Found, founds_of}
use Rattle.xxhsum_audit.specs.Item.{Item, Says, item_of, items_of, texts_of}
use Rattle.xxhsum_program.specs.Lines.{name_messages}
use Rattle.xxhsum_program.specs.Outcomes.{Comes, is_digested}

-- The name has this digest, and nothing is reported. Or it has none, and the reason is reported.
abbrev pub DigestsName : {S F E : Type 0} → Files S F → Messages E → Kind → List ℕ → Option FileDigest → Type 0
DigestsName files messages kind name (Some found) =
    (value : ℕ) × (item_of found ≡ Says name kind value) × Comes files kind name (Digested value) × Reports messages []
DigestsName files messages kind name None =
    (outcome : Outcome) × (is_digested outcome ≡ false) × Comes files kind name outcome
    × Reports messages (name_messages name outcome)

-- The results were appended to the known ones.
abbrev pub Grows : Compared → Compared → List Found → List (List ℕ) → Type 0
Grows old new found unread =
    (founds_of new.matched.items ≡ founds_of old.matched.items ++ matched_in found)
    × (items_of new.removed.items ≡ items_of old.removed.items ++ missing_in found)
    × (items_of new.added.items ≡ items_of old.added.items ++ new_in found)
    × (texts_of new.unread.items ≡ texts_of old.unread.items ++ unread)

-- A row was appended. Its messages were reported, also if out of memory.
abbrev pub AddsRow : {E : Type 0} → Messages E → (Row → Type 0) → Kind → Compared → Compared → Result (Unit {0}) AllocError → Type 0
AddsRow messages is_row kind old new (Ok _) =
    (row : Row) × is_row row × Grows old new (first_of kind row) (unread_of row) × Reports messages (row_messages row)
AddsRow messages is_row kind old new (Err e) = (row : Row) × is_row row × Reports messages (row_messages row)

-- `compared` holds the results of these rows, and the names that can't be read after those that are `lost`.
pub record HoldsRows (kind : Kind) (lost : List (List ℕ)) (rows : List Row) (compared : Compared) : Type 0 where
  pub matched : founds_of compared.matched.items ≡ matched_in (first_in kind rows)
  pub removed : items_of compared.removed.items ≡ missing_in (first_in kind rows)
  pub added : items_of compared.added.items ≡ new_in (first_in kind rows)
  pub unread : texts_of compared.unread.items ≡ lost ++ unread_in rows

-- Each side has a row. `compared` holds the results of the rows, and their messages were reported.
abbrev pub DigestsRows : {S F E : Type 0} → Files S F → Messages E → Kind → List (List ℕ) → List (Side Item (List ℕ)) → Compared → Type 0
DigestsRows files messages kind lost sides compared =
    (rows : List Row) × AreRows files kind lost sides rows × HoldsRows kind lost rows compared
    × Reports messages (messages_in rows)

-- The first sides have rows, and the messages of the rows were reported.
abbrev pub FailsRows : {S F E : Type 0} → Files S F → Messages E → Kind → List (List ℕ) → List (Side Item (List ℕ)) → Type 0
FailsRows files messages kind lost sides = (rows : List Row) × ReportsRows files messages kind lost sides rows
