-- A hashing run over names: one outcome for each name, in the order of the names.
use Rattle.std.specs.Prelude.{◌≡◌, ℕ, Bool, List, [], ◌∷◌, ◌++◌, is_ok, map, IfOk, Result, Ok, Err}
use Rattle.xxhsum_program.specs.Prelude.{Digested, EachHas, Files, Input, IsDirectory, Kind, OutOfMemory, Outcome, Stop, Style, Unread, WriteFailed, concat}
use Rattle.xxh_io.specs.declared.digest_error.DigestError.{DigestError}
use Rattle.xxh_io.specs.Digest.{ReadsTo}
use Rattle.xxh_program.specs.Kind.{value_of}
use Rattle.xxh_program.specs.States.{most_reads}
use Rattle.xxhsum_line.specs.Printed.{styled_line}
use Rattle.xxhsum_program.specs.Outcomes.{Comes, are_digested}
use Rattle.xxhsum_program.specs.Order.{Effect, Event, HasEvents, Printed, Reported}
use Rattle.xxhsum_program.specs.Lines.{input_message, lines_of, name_messages}

-- If the run reaches its end, no name is left, and the result is true if each has a value. Only a failed write or a
-- failed allocation stops it before.
abbrev pub EndsWith : List (List ℕ) → List Outcome → Result Bool Stop → Type 0
EndsWith rest outcomes (Ok all) = (rest ≡ []) × (all ≡ are_digested outcomes)
EndsWith rest outcomes (Err stop) = Unit {0}

-- ---- the events of names

-- A name has its line, or its message.
abbrev pub name_events : Kind → Style → List ℕ → Outcome → List Event
name_events kind style name (Digested value) = Printed (styled_line kind style value name) ∷ []
name_events kind style name IsDirectory = map Reported (name_messages name IsDirectory)
name_events kind style name (Unread reason) = map Reported (name_messages name (Unread reason))

-- The names are those that are done, each with its outcome, followed by the rest. The line or the message of each is
-- written before those of the next name.
abbrev pub SaysNames : {S F W E : Type 0} → Files S F → Effect W E → Kind → Style → List (List ℕ) → Type 0
SaysNames files effect kind style names =
    (outcomes : List Outcome) × (done rest : List (List ℕ)) × (names ≡ done ++ rest)
    × EachHas (Comes files kind) done outcomes × EndsWith rest outcomes effect.result
    × HasEvents effect (lines_of (name_events kind style) done outcomes)

-- ---- the events of standard input

-- Standard input has its line, or its message; if out of memory for its line, neither.
abbrev pub read_events : Kind → Style → List ℕ → ℕ → List ℕ → Result ℕ DigestError → List Event
read_events kind style name value why (Ok hash) = Printed (styled_line kind style value name) ∷ []
read_events kind style name value why (Err e) = Reported (input_message name e why) ∷ []

abbrev pub input_events : Kind → Style → List ℕ → ℕ → List ℕ → Result ℕ DigestError → Result Bool Stop → List Event
input_events kind style name value why read (Ok all) = read_events kind style name value why read
input_events kind style name value why read (Err WriteFailed) = read_events kind style name value why read
input_events kind style name value why read (Err OutOfMemory) = []

-- A source is read to its end, or a read fails; then its line or its message is written. The result is true if it was
-- read to its end.
abbrev pub SaysInput : {R W E : Type 0} → Input R → R → Effect W E → Kind → Style → List ℕ → Type 0
SaysInput input end effect kind style name =
    (pieces : List (List ℕ)) × (read : Result ℕ DigestError)
    × ReadsTo input.reading most_reads pieces input.source end read
    × IfOk effect.result (λ all. all ≡ is_ok read)
    × HasEvents effect
    (input_events kind style name (value_of kind 0 (concat pieces)) (input.reading.reason end) read effect.result)
