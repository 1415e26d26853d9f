-- What the calls of the system return.
use Rattle.std.specs.Prelude.{◌≡◌, ℕ, ℤ, pos, List, Option, Result, unwrap_or}
use Rattle.std.specs.Io.KnownBytes.{Keeps}
use Rattle.std.specs.IoError.{raw_os_error}
use Rattle.std.specs.declared.io.Error.{Error}
use Rattle.xxh_io.specs.FromRead.{ReadsPiece}
use Rattle.xxh_io.specs.Refusal.{refusal_code}
use Rattle.xxh_io.specs.declared.refusal.Refusal.{Refusal}
use Rattle.xxhsum_fs.specs.declared.calls.Process.{Process}
use Rattle.xxhsum_fs.specs.declared.calls.Reads.{Reads}

-- The reader of these calls.
abbrev pub called_reader : {R : Type 0} → Reads R → R
called_reader calls = calls.reader

-- If the remaining bytes are known, they began with this chunk, which is empty only at their end.
abbrev pub ConsumesPiece : {R : Type 0} → (R → Option (List ℕ)) → Reads R → List ℕ → Reads R → Type 0
ConsumesPiece remaining old piece new = ReadsPiece (remaining old.reader) piece (remaining new.reader)

-- If the remaining bytes are known, a read that failed has consumed none.
abbrev pub KeepsAll : {R : Type 0} → (R → Option (List ℕ)) → Reads R → Error → Reads R → Type 0
KeepsAll remaining old error new = Keeps (remaining old.reader) (remaining new.reader)

-- A call may have any result.
abbrev pub AnyResult : {P T : Type 0} → Process P → List ℕ → Result T Error → Type 0
AnyResult process name result = Unit {0}

-- The system's error number. It is 0 if the error is not the system's.
abbrev pub code_of : Error → ℤ
code_of error = unwrap_or (raw_os_error error) (pos 0)

-- The reason has the error's number.
abbrev pub IsReasonOf : Error → Refusal → Type 0
IsReasonOf error why = refusal_code why ≡ code_of error
