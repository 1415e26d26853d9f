-- The line and the exit status of each error.
use Rattle.std.specs.Prelude.{ℕ, List, [], ◌∷◌, ◌++◌, codes}
use Rattle.xxh_io.specs.declared.digest_error.DigestError.{DigestError}
use Rattle.xxh_io.specs.declared.digest_error.DigestError.TheVariants.{ReadFailed, WriteFailed, TooLong}
use Rattle.xxh_io.specs.declared.fault.Fault.{Fault}
use Rattle.xxh_io.specs.declared.fault.Fault.TheVariants.{Usage, BadSeed, BadSize, BadState, OutOfMemory, Digest}

-- the text of each error of a digest
abbrev pub digest_text : DigestError → List ℕ
digest_text ReadFailed = codes "read failed"
digest_text WriteFailed = codes "write failed"
digest_text TooLong = codes "too long"

-- the error message
abbrev pub text_of : Fault → List ℕ
text_of Usage = codes "usage: xxh hash|save|resume 32|64|3-64|3-128 [SEED|JSON] or xxh blocks SIZE"
text_of BadSeed = codes "bad seed"
text_of BadSize = codes "bad size"
text_of BadState = codes "bad state"
text_of OutOfMemory = codes "out of memory"
text_of (Digest e) = digest_text e

-- the program's name, the message and a newline
abbrev pub line_of : Fault → List ℕ
line_of fault = codes "xxh: " ++ (text_of fault ++ 10 ∷ [])

-- the program's name, the system's message for a read, and a newline
abbrev pub unread_line : List ℕ → List ℕ
unread_line reason = codes "xxh: read failed: " ++ (reason ++ 10 ∷ [])

-- the line on standard error; that of a failed read has the system's message
abbrev pub reported_line : List ℕ → Fault → List ℕ
reported_line reason Usage = line_of Usage
reported_line reason BadSeed = line_of BadSeed
reported_line reason BadSize = line_of BadSize
reported_line reason BadState = line_of BadState
reported_line reason OutOfMemory = line_of OutOfMemory
reported_line reason (Digest ReadFailed) = unread_line reason
reported_line reason (Digest WriteFailed) = line_of (Digest WriteFailed)
reported_line reason (Digest TooLong) = line_of (Digest TooLong)

-- 1 for errors of reading or writing, 2 for errors in the arguments, 3 if out of memory
abbrev pub status_of : Fault → ℕ
status_of Usage = 2
status_of BadSeed = 2
status_of BadSize = 2
status_of BadState = 2
status_of OutOfMemory = 3
status_of (Digest e) = 1
