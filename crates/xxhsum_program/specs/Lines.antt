-- The messages about names and standard input, and lines on standard output.
use Rattle.std.specs.Prelude.{◌≡◌, ℕ, List, [], ◌∷◌, ◌++◌, codes, Result, Ok, Err}
use Rattle.xxhsum_program.specs.Prelude.{Digested, IsDirectory, OutOfMemory, Outcome, Reason, Refused, SinkRules, Stop, Took, Unread, WriteFailed, concat}
use Rattle.xxh_io.specs.declared.digest_error.DigestError.{DigestError}
use Rattle.xxhsum_program.specs.declared.outcome.Reason.TheVariants as Why
use Rattle.xxhsum_program.specs.Outcomes.{error_text, reason_text}

-- The step that failed for a file.
abbrev pub step_text : Reason → List ℕ
step_text (Why.Unopened refusal) = codes "open"
step_text (Why.ReadFailed refusal) = codes "read"
step_text Why.TooLong = codes "read"

-- The messages about a name: one if it has no value.
abbrev pub name_messages : List ℕ → Outcome → List (List ℕ)
name_messages name (Digested value) = []
name_messages name IsDirectory = concat (codes "xxhsum: " ∷ name ∷ codes ": Is a directory " ∷ []) ∷ []
name_messages name (Unread reason) =
    concat (codes "Error: Could not " ∷ step_text reason ∷ codes " '" ∷ name ∷ codes "': " ∷ reason_text reason
    ∷ codes ". " ∷ []) ∷ []

-- The message about standard input, if it was not read to its end; `why` is the system's message for the read.
abbrev pub input_message : List ℕ → DigestError → List ℕ → List ℕ
input_message name e why =
    concat (codes "Error: Could not read '" ∷ name ∷ codes "': " ∷ error_text e why ∷ codes "." ∷ [])

-- The lists of all names, joined in the order of the names.
abbrev pub lines_of : {T U : Type 0} → (List ℕ → T → List U) → List (List ℕ) → List T → List U
lines_of line (name ∷ names) (outcome ∷ outcomes) = line name outcome ++ lines_of line names outcomes
lines_of line [] outcomes = []
lines_of line (name ∷ names) [] = []

-- A line is written: all of it; a prefix of it if a write failed; nothing if out of memory.
abbrev pub PrintsLine : {W T : Type 0} → SinkRules W → List ℕ → W → W → Result T Stop → Type 0
PrintsLine writing line old new (Ok _) = Took writing line old new
PrintsLine writing line old new (Err WriteFailed) = Refused writing line old new
PrintsLine writing line old new (Err OutOfMemory) = new ≡ old
