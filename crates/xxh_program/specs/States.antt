-- `save` prints the saved text of the input's hasher, and `resume` continues from such a text.
use Rattle.std.specs.Prelude.{◌≡◌, ◌⊎◌, ◌-◌, ◌^◌, ℕ, List, [], ◌∷◌, ◌++◌, Option, Some, Result, Ok, Err}
use Rattle.std.specs.List.{concat}
use Rattle.twox_hash.specs.Xxh32.{xxh32}
use Rattle.twox_hash.specs.Xxh64.{xxh64}
use Rattle.twox_hash.specs.Record32
use Rattle.twox_hash.specs.Record64
use Rattle.twox_hash.specs.Saved32
use Rattle.twox_hash.specs.Saved64
use Rattle.twox_plain.specs.declared.xxhash32.SavedState.{SavedState as State32}
use Rattle.twox_plain.specs.declared.xxhash64.SavedState.{SavedState as State64}
use Rattle.xxh_io.specs.declared.digest_error.DigestError.{DigestError}
use Rattle.xxh_io.specs.declared.digest_error.DigestError.TheVariants.{ReadFailed, WriteFailed, TooLong}
use Rattle.xxh_io.specs.declared.fault.Fault.{Fault}
use Rattle.xxh_io.specs.declared.fault.Fault.TheVariants.{BadState, OutOfMemory, Digest}
use Rattle.xxh_io.specs.Digest.{ReadsTo, Writes}
use Rattle.xxh_io.specs.Hex.{hex_line}
use Rattle.xxh_io.specs.Rules.{SinkRules}
use Rattle.xxh_program.specs.Filter.{Filter}

-- The program's maximum number of reads.
abbrev pub most_reads : ℕ
most_reads = 2 ^ 64 - 1

-- The program's result, from the result of a digest.
abbrev pub digest_answer : Result (Unit {0}) DigestError → Result (Unit {0}) Fault
digest_answer (Ok x) = Ok x
digest_answer (Err e) = Err (Digest e)

-- ---- save

-- The text was written. If a write failed, a proper prefix of it was written. If out of memory, nothing was written.
abbrev pub Prints : {W : Type 0} → SinkRules W → List ℕ → W → W → Result (Unit {0}) Fault → Type 0
Prints writing text old new (Ok x) = Writes {T = Unit {0}} writing text old new (Ok x)
Prints writing text old new (Err (Digest WriteFailed)) =
    Writes {T = Unit {0}} writing text old new (Err WriteFailed)
Prints writing text old new (Err OutOfMemory) = new ≡ old
Prints writing text old new (Err _) = ⊥

-- A kind of record: the bytes that a record represents, its seed, and its saved text.
pub record SavedForm (S : Type 0) : Type 1 where
  pub stands_for : S → List ℕ → Type 0
  pub seed_of : S → ℕ
  pub text_of : S → List ℕ

-- The saved text of a record with this seed was printed. The record represents the bytes m. If the input was not read
-- to its end, nothing was printed.
abbrev pub PrintsState : {S R W : Type 0} → SavedForm S → Filter R W → ℕ → List ℕ → Result S DigestError
    → Result (Unit {0}) Fault → Type 0
PrintsState form filter seed m (Ok state) answer =
    (form.seed_of state ≡ seed) × form.stands_for state m
    × Prints filter.writing (form.text_of state ++ 10 ∷ []) filter.old filter.new answer
PrintsState form filter seed m (Err e) answer = (answer ≡ Err (Digest e)) × (filter.new ≡ filter.old)

abbrev pub Saves : {S R W : Type 0} → SavedForm S → Filter R W → ℕ → Result (Unit {0}) Fault → Type 0
Saves {S} form filter seed answer =
    (read : Result S DigestError) × ((pieces : List (List ℕ))
    × ReadsTo filter.reading most_reads pieces filter.source filter.rest read
    × PrintsState form filter seed (concat pieces) read answer)

abbrev pub Saves32 : {R W : Type 0} → Filter R W → ℕ → Result (Unit {0}) Fault → Type 0
Saves32 filter seed answer =
    Saves (record { stands_for = Record32.Represents; seed_of = λ s. s.seed; text_of = Saved32.saved_text }) filter seed answer

abbrev pub Saves64 : {R W : Type 0} → Filter R W → ℕ → Result (Unit {0}) Fault → Type 0
Saves64 filter seed answer =
    Saves (record { stands_for = Record64.Represents; seed_of = λ s. s.seed; text_of = Saved64.saved_text }) filter seed answer

-- ---- resume

-- The text represents this record, and a hasher can be made from the record. `BadState`: it represents no such record.
-- `OutOfMemory` can happen with any text.
abbrev pub Restores : {S : Type 0} → (List ℕ → Option S) → (S → Type 0) → List ℕ → Result S Fault
    → Type 0
Restores record_of Fits text (Ok state) = (record_of text ≡ Some state) × Fits state
Restores {S} record_of Fits text (Err BadState) =
    (state : S) → record_of text ≡ Some state → Fits state → ⊥
Restores record_of Fits text (Err OutOfMemory) = Unit {0}
Restores record_of Fits text (Err _) = ⊥

abbrev pub Restores32 : List ℕ → Result State32 Fault → Type 0
Restores32 text restored =
    Restores Saved32.record_of_text (λ s. Record32.UsageFits s × Record32.CoreFits s) text restored

abbrev pub Restores64 : List ℕ → Result State64 Fault → Type 0
Restores64 text restored =
    Restores Saved64.record_of_text (λ s. Record64.UsageFits s × Record64.CoreFits s) text restored

-- A digest was continued from the record, for every list that the record represents. If its reads failed or were too
-- many, nothing was written. If there is no record, nothing was read or written.
abbrev pub AndThen : {S R W : Type 0} → (S → List ℕ → Type 0) → (S → List ℕ → List ℕ) → Filter R W → Result S Fault
    → Result (Unit {0}) Fault → Type 0
AndThen stands_for line_of filter (Ok state) answer =
    (digested : Result (Unit {0}) DigestError) × (answer ≡ digest_answer digested)
    × ((digested ≡ Err ReadFailed) ⊎ (digested ≡ Err TooLong) → filter.new ≡ filter.old)
    × ((pieces : List (List ℕ)) × ReadsTo filter.reading most_reads pieces filter.source filter.rest digested
    × ((m : List ℕ) → stands_for state m
    → Writes filter.writing (line_of state (m ++ concat pieces)) filter.old filter.new digested))
AndThen stands_for line_of filter (Err fault) answer =
    (answer ≡ Err fault) × (filter.rest ≡ filter.source) × (filter.new ≡ filter.old)

abbrev pub Resumes32 : {R W : Type 0} → Filter R W → List ℕ → Result (Unit {0}) Fault → Type 0
Resumes32 filter text answer =
    (restored : Result State32 Fault) × Restores32 text restored
    × AndThen Record32.Represents (λ s m. hex_line 8 (xxh32 s.seed m)) filter restored answer

abbrev pub Resumes64 : {R W : Type 0} → Filter R W → List ℕ → Result (Unit {0}) Fault → Type 0
Resumes64 filter text answer =
    (restored : Result State64 Fault) × Restores64 text restored
    × AndThen Record64.Represents (λ s m. hex_line 16 (xxh64 s.seed m)) filter restored answer
