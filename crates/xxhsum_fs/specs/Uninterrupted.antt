-- Calls that read, repeated while a signal interrupts them.
use Rattle.std.specs.Prelude.{◌≡◌, ◌≢◌, ◌⊎◌, ℕ, ◌-◌, ◌^◌, zero, suc, Bool, List, Option, Some, is_some}
use Rattle.std.specs.IoError.{error_kind}
use Rattle.std.specs.declared.io.Error.{Error}
use Rattle.std.specs.declared.io.ErrorKind.TheVariants.{Interrupted, TimedOut}
use Rattle.xxh_io.specs.Refusal.{failure_text}
use Rattle.xxh_io.specs.declared.refusal.Refusal.{Refusal}
use Rattle.xxhsum_fs.specs.Calls.{IsReasonOf}
use Rattle.xxhsum_fs.specs.Rules.{ReadRules}
use Rattle.xxhsum_fs.specs.declared.uninterrupted.Uninterrupted.{Uninterrupted}

-- The inner reader.
abbrev pub interrupted_reader : {R : Type 0} → Uninterrupted R → R
interrupted_reader s = s.inner

-- The error of the read that failed, if one has.
abbrev pub failure_of : {R : Type 0} → Uninterrupted R → Option Refusal
failure_of s = s.failure

-- True if a read has failed.
abbrev pub has_failure : {R : Type 0} → Uninterrupted R → Bool
has_failure s = is_some s.failure

-- The system's message for the read that failed.
abbrev pub failure_message : {R : Type 0} → Uninterrupted R → List ℕ
failure_message s = failure_text s.failure

-- This many calls, one after another, were interrupted.
abbrev pub AreInterrupted : {R : Type 0} → ReadRules R → ℕ → R → R → Type 0
AreInterrupted calls zero old new = new ≡ old
AreInterrupted {R} calls (suc count) old new =
    (met : R) × (error : Error) × AreInterrupted calls count old met × calls.fails met error new
    × (error_kind error ≡ Interrupted)

-- Some calls, or none, were interrupted, and the next one returned these bytes.
abbrev pub GivesAtLast : {R : Type 0} → ReadRules R → R → List ℕ → R → Type 0
GivesAtLast {R} calls old piece new =
    (count : ℕ) × (met : R) × AreInterrupted calls count old met × calls.gives met piece new

-- Some calls, or none, were interrupted, and the next one failed with this error, which is no interruption. The error
-- is `TimedOut` after 2^64 - 1 calls that were all interrupted.
abbrev pub FailsAtLast : {R : Type 0} → ReadRules R → R → Error → R → Type 0
FailsAtLast {R} calls old error new =
    ((count : ℕ) × (met : R) × AreInterrupted calls count old met × calls.fails met error new
    × (error_kind error ≢ Interrupted))
    ⊎ ((count : ℕ) × (count ≡ 2 ^ 64 - 1) × AreInterrupted calls count old new × (error_kind error ≡ TimedOut))

-- A read of the source returned these bytes.
abbrev pub SourceGives : {R : Type 0} → ReadRules R → Uninterrupted R → List ℕ → Uninterrupted R → Type 0
SourceGives calls old piece new = GivesAtLast calls old.inner piece new.inner

-- A read of the source failed, and the source has the error's number.
abbrev pub SourceFails : {R : Type 0} → ReadRules R → Uninterrupted R → Uninterrupted R → Type 0
SourceFails calls old new =
    (error : Error) × (why : Refusal) × FailsAtLast calls old.inner error new.inner × (new.failure ≡ Some why)
    × IsReasonOf error why
