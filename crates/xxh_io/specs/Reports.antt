-- What is written to standard error, the program's error messages, and its exit status.
use Rattle.std.specs.Prelude.{◌≡◌, ℕ, List, is_err, IfErr, Result, Ok, Err}
use Rattle.xxh_io.specs.declared.digest_error.DigestError.{DigestError}
use Rattle.xxh_io.specs.declared.digest_error.DigestError.TheVariants.{WriteFailed}
use Rattle.xxh_io.specs.declared.fault.Fault.{Fault}
use Rattle.xxh_io.specs.Rules.{SinkRules}
use Rattle.xxh_io.specs.Digest.{Writes}
use Rattle.xxh_io.specs.Fault.{reported_line, status_of}

-- all of the bytes were taken, or a beginning of them up to a write that failed, and then nothing more
abbrev pub TakesOrFails : {E : Type 0} → SinkRules E → List ℕ → E → E → Type 0
TakesOrFails reporting bytes old new =
    (written : Result (Unit {0}) DigestError) × Writes reporting bytes old new written
    × IfErr written (λ e. e ≡ WriteFailed) × (reporting.has_failed new ≡ is_err written)

-- an error's line was written, and nothing without an error; `reason` is the system's message for a failed read
abbrev pub ReportsError : {E : Type 0} → SinkRules E → List ℕ → Result (Unit {0}) Fault → E → E → Type 0
ReportsError reporting reason (Ok x) old new = new ≡ old
ReportsError reporting reason (Err fault) old new = TakesOrFails reporting (reported_line reason fault) old new

-- the exit status
abbrev pub status_after : Result (Unit {0}) Fault → ℕ
status_after (Ok x) = 0
status_after (Err fault) = status_of fault
