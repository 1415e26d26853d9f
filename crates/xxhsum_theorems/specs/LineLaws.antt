-- Lists, duplicate names and audits as whole lines, and audits as whole records.
use Rattle.std.specs.Prelude.{◌≡◌, ◌⊎◌, ℕ, List, [], ◌∷◌, ◌++◌}
use Rattle.std.specs.List.{AllByRecursion, concat}
use Rattle.xxh_io.specs.declared.refusal.Refusal.{Refusal}
use Rattle.xxhsum_app.specs.Texts.{unopened_text, unread_text}
use Rattle.xxhsum_line.specs.Laws.{IsOneLine}
use Rattle.xxhsum_line.specs.Parts.{Lacks}
use Rattle.xxhsum_program.specs.ListMessages.{improper_text, too_long_text}
use Rattle.xxhsum_program.specs.Order.{Event, Printed, Reported}
use Rattle.xxhsum_program.specs.Prelude.{one_line}

-- the bytes are parts of this form
abbrev pub AreWhole : (List ℕ → Type 0) → List ℕ → Type 0
AreWhole is_one bytes = (parts : List (List ℕ)) × AllByRecursion is_one parts × (bytes ≡ concat parts)

-- the bytes are whole lines
abbrev pub AreLines : List ℕ → Type 0
AreLines bytes = AreWhole IsOneLine bytes

-- the bytes are one record: the last byte is a NUL, and no other byte is
abbrev pub IsOneRecord : List ℕ → Type 0
IsOneRecord bytes = (text : List ℕ) × (bytes ≡ text ++ 0 ∷ []) × Lacks 0 text

-- the bytes are whole records
abbrev pub AreRecords : List ℕ → Type 0
AreRecords bytes = AreWhole IsOneRecord bytes

-- the event writes whole lines, and if it is a message, one
abbrev pub WritesLines : Event → Type 0
WritesLines (Printed bytes) = AreLines bytes
WritesLines (Reported text) = IsOneLine (one_line text)

-- the message is that the list can't be opened or read, or that a line of it is too long or malformed
abbrev pub IsListMessage : List ℕ → List ℕ → Type 0
IsListMessage list message =
    ((why : Refusal) × (message ≡ unopened_text list why))
    ⊎ (((why : List ℕ) × (message ≡ unread_text list why))
    ⊎ (((number : ℕ) × (message ≡ too_long_text list number)) ⊎ ((number : ℕ) × (message ≡ improper_text list number))))

-- the message is one line of that form
abbrev pub IsListLine : List ℕ → List ℕ → Type 0
IsListLine list message = IsListMessage list message × IsOneLine (one_line message)
