-- An audit of names against the list of a name.
use Rattle.std.specs.Prelude.{◌≡◌, ◌⊎◌, ℕ, Bool, true, false, ◌&&◌, List, [], ◌∷◌, ◌++◌, Option, Some, None, codes, Result, Ok, Err}
use Rattle.xxhsum_app.specs.Prelude.{Eprints, Files, Options, OutOfMemory, SinkRules, Stop, Streams, concat, one_line}
use Rattle.xxhsum_app.specs.Finds.{AndThen, HasNoRoom, OnlyReports}
use Rattle.xxhsum_app.specs.Messages.{Reports, effect_messages}
use Rattle.xxhsum_app.specs.ReadList.{ListSays, ListSaysNothing}
use Rattle.xxhsum_app.specs.Report.{PrintsReport, are_same}
use Rattle.xxhsum_app.specs.Rows.{AreRows, ReportsRows, Row, kept_in, kind_of_new, messages_in, seen_in, unread_in}
use Rattle.xxhsum_audit.specs.Audit.{IsAudit}
use Rattle.xxhsum_audit.specs.Found.{Found}
use Rattle.xxhsum_audit.specs.Item.{Item, names_of}
use Rattle.xxhsum_audit.specs.Order.{IsOrder, find_duplicate, rank_lines, rank_names}
use Rattle.xxhsum_audit.specs.Side.{by_path}
use Rattle.xxhsum_program.specs.Command.{has_none}
use Rattle.xxhsum_program.specs.Order.{Effect, Releases}

-- The message that another name of the list leads to the same path as this one.
abbrev pub duplicate_text : List ℕ → List ℕ → List ℕ
duplicate_text among name = concat (among ∷ codes ": duplicate name '" ∷ name ∷ codes "'." ∷ [])

-- A name that leads to the same path as another is reported, if there is one.
abbrev pub ReportsDuplicate : {E : Type 0} → SinkRules E → List ℕ → Option (List ℕ) → E → E → Bool → Type 0
ReportsDuplicate reporting among None old new result = (result ≡ false) × (new ≡ old)
ReportsDuplicate reporting among (Some name) old new result =
    (result ≡ true) × Eprints reporting (one_line (duplicate_text among name)) old new

-- The result is true if all are the same, and no name or directory is unreadable.
abbrev pub AnswersAudit : List Found → List (List ℕ) → Result Bool Stop → Type 0
AnswersAudit found unread (Ok all) = all ≡ (are_same found && has_none unread)
AnswersAudit found unread (Err stop) = Unit {0}

-- Lines and names are put side by side by the path that they lead to, both in order and none twice. Each name is
-- hashed, with its messages; then the class of each line and name is printed, and each name that can't be read: those
-- that are `lost`, and those of the rows. Or memory ran out before anything was printed.
abbrev pub AuditsSides : {S F W E : Type 0} → Files S F → Effect W E → Options → List (List ℕ) → List Item → List (List ℕ) → Type 0
AuditsSides files effect options lost lines names =
    let kind = kind_of_new options.kind lines in
    let sides = by_path lines names in
    ((rows : List Row) × (found : List Found) × AreRows files kind lost sides rows
    × Reports (effect_messages effect) (messages_in rows)
    × IsAudit (kept_in rows) (seen_in kind rows) found
    × PrintsReport effect.rules.writing options found (lost ++ unread_in rows) effect.old.out effect.new.out effect.result
    × AnswersAudit found (lost ++ unread_in rows) effect.result)
    ⊎ ((rows : List Row)
    × ReportsRows files (effect_messages effect) kind lost sides rows
    × (effect.new.out ≡ effect.old.out) × (effect.result ≡ Err OutOfMemory))

-- If two lines of the list, or two names, lead to one path, only that is reported.
abbrev pub OnlyReportsDuplicate : {W E : Type 0} → Effect W E → List ℕ → Option (List ℕ) → Option (List ℕ) → Type 0 → Type 0
OnlyReportsDuplicate effect list (Some name) other audits = OnlyReports effect (duplicate_text list name)
OnlyReportsDuplicate effect list None (Some name) audits = OnlyReports effect (duplicate_text (codes "Error") name)
OnlyReportsDuplicate effect list None None audits = audits

-- The entries of the lines and the names that were given, both in order.
abbrev pub AuditsItems : {S F W E : Type 0} → Files S F → Effect W E → Options → List (List ℕ) → List ℕ → List Item → List (List ℕ) → Type 0
AuditsItems files effect options lost list entries names =
    ((lines : List Item) × (requested : List (List ℕ)) × IsOrder rank_lines entries lines × IsOrder rank_names names requested
    × OnlyReportsDuplicate effect list (find_duplicate (names_of lines)) (find_duplicate requested)
    (AuditsSides files effect options lost lines requested))
    ⊎ HasNoRoom effect

-- The lines of the list are compared with the names. If the list has no text, or a line has no entry, only that is
-- reported.
abbrev pub AuditsList : {S F W E : Type 0} → Files S F → Effect W E → Options → List (List ℕ) → List ℕ → List (List ℕ) → Type 0
AuditsList files effect options lost list names =
    AndThen effect (ListSays files options.is_little_endian list) (ListSaysNothing files options.is_little_endian list)
    (λ entries. AuditsItems files effect options lost list entries names)

-- The bytes that the output holds are written first, so that no message appears before them. `lost` are the
-- directories and names that a walk could not read.
abbrev pub Audits : {S F W E : Type 0} → Files S F → Effect W E → Options → List (List ℕ) → List ℕ → List (List ℕ) → Type 0
Audits {W = W} {E = E} files effect options lost list names =
    (start : Streams W E) × Releases effect.rules effect.old start
    × AuditsList files (record effect { old = start }) options lost list names
