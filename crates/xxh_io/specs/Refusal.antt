-- The parts of an error of the system.
use Rattle.std.specs.Prelude.{ℤ, pos, ℕ, Bool, List, [], Option, Some, None, take}
use Rattle.std.specs.Ordering.{int_eq}
use Rattle.xxh_io.specs.declared.refusal.Refusal.{Refusal}

-- the system's error number
abbrev pub refusal_code : Refusal → ℤ
refusal_code refusal = refusal.code

-- true if the file is missing (ENOENT)
abbrev pub is_missing : Refusal → Bool
is_missing refusal = int_eq refusal.code (pos 2)

-- the system's message
abbrev pub refusal_text : Refusal → List ℕ
refusal_text refusal = take refusal.len refusal.text

-- the system's message; empty if no call has failed
abbrev pub failure_text : Option Refusal → List ℕ
failure_text None = []
failure_text (Some refusal) = refusal_text refusal
