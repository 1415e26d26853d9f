-- The outcomes of the names of a hashing run.
use Rattle.std.specs.Prelude.{◌≡◌, ℕ, Bool, true, false, List, codes, Result, Ok, Err}
use Rattle.std.specs.List.{list_all}
use Rattle.xxhsum_program.specs.Prelude.{Digested, Files, IsDirectory, Kind, Outcome, Reason, Refusal, Unread, concat}
use Rattle.xxh_io.specs.declared.digest_error.DigestError.{DigestError}
use Rattle.xxh_io.specs.declared.digest_error.DigestError.TheVariants.{ReadFailed, WriteFailed, TooLong}
use Rattle.xxh_io.specs.Digest.{ReadsTo}
use Rattle.xxh_program.specs.Kind.{value_of}
use Rattle.xxh_program.specs.States.{most_reads}
use Rattle.xxh_io.specs.Refusal.{is_missing, refusal_text}
use Rattle.xxhsum_program.specs.declared.outcome.Reason.TheVariants as Why

-- The name leads to a file that was read to its end, and the value is the digest of the bytes read, with the seed 0.
abbrev pub IsValueOf : {S F : Type 0} → Files S F → Kind → List ℕ → ℕ → Type 0
IsValueOf {S} {F} files kind name value =
    (file end : F) × (pieces : List (List ℕ)) × (read : Result ℕ DigestError) × (read ≡ Ok value)
    × files.opening.opens files.store name file × ReadsTo files.reading most_reads pieces file end read
    × (value ≡ value_of kind 0 (concat pieces))

-- The name leads to a file that was not read to its end, with this error. Its reads led to `end`.
abbrev pub FailsAt : {S F : Type 0} → Files S F → List ℕ → DigestError → F → Type 0
FailsAt {S} {F} files name e end =
    (file : F) × (pieces : List (List ℕ)) × (read : Result ℕ DigestError) × (read ≡ Err e)
    × files.opening.opens files.store name file × ReadsTo files.reading most_reads pieces file end read

-- The name has no value, for this reason. That of a failed read has the system's message.
abbrev pub HasNoValue : {S F : Type 0} → Files S F → List ℕ → Reason → Type 0
HasNoValue files name (Why.Unopened refusal) = files.opening.refuses files.store name refusal
HasNoValue {S} {F} files name (Why.ReadFailed refusal) =
    (end : F) × FailsAt files name ReadFailed end × (refusal_text refusal ≡ files.reading.reason end)
HasNoValue {S} {F} files name Why.TooLong = (end : F) × FailsAt files name TooLong end

-- The name has this outcome. It is `IsDirectory` if and only if the name is a directory in the store.
abbrev pub Comes : {S F : Type 0} → Files S F → Kind → List ℕ → Outcome → Type 0
Comes files kind name (Digested value) =
    files.opening.holds_directory files.store name false × IsValueOf files kind name value
Comes files kind name IsDirectory =
    files.opening.holds_directory files.store name true
Comes files kind name (Unread reason) =
    files.opening.holds_directory files.store name false × HasNoValue files name reason

-- The reason for a digest's error, if this is the system's error of the read. A write error does not occur.
abbrev pub reason_of : DigestError → Refusal → Reason
reason_of ReadFailed refusal = Why.ReadFailed refusal
reason_of WriteFailed refusal = Why.ReadFailed refusal
reason_of TooLong refusal = Why.TooLong

-- A reason as text.
abbrev pub reason_text : Reason → List ℕ
reason_text (Why.Unopened refusal) = refusal_text refusal
reason_text (Why.ReadFailed refusal) = refusal_text refusal
reason_text Why.TooLong = codes "the input file is too long"

-- A digest's error as text; `why` is the system's message for the read.
abbrev pub error_text : DigestError → List ℕ → List ℕ
error_text ReadFailed why = why
error_text WriteFailed why = why
error_text TooLong why = codes "the input file is too long"

-- True if the reason is that there is no file of the name.
abbrev pub has_no_file : Reason → Bool
has_no_file (Why.Unopened refusal) = is_missing refusal
has_no_file reason = false

-- True if the name has a value.
abbrev pub is_digested : Outcome → Bool
is_digested (Digested value) = true
is_digested outcome = false

-- True if each name has a value.
abbrev pub are_digested : List Outcome → Bool
are_digested outcomes = list_all is_digested outcomes
