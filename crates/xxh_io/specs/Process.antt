-- The effect of the program, with the arguments of its process.
use Rattle.std.specs.Prelude.{◌≡◌, ◌≢◌, ℕ, List, drop, map, IfErr, Result, Ok, Err}
use Rattle.std.specs.Borrow.{Bor}
use Rattle.std.specs.declared.io.ErrorKind.{ErrorKind}
use Rattle.std.specs.declared.io.ErrorKind.TheVariants.{InvalidData}
use Rattle.xxh_io.specs.declared.digest_error.DigestError.TheVariants.{WriteFailed}
use Rattle.xxh_io.specs.declared.fault.Fault.{Fault}
use Rattle.xxh_io.specs.declared.fault.Fault.TheVariants.{Usage, OutOfMemory, Digest}
use Rattle.xxh_io.specs.declared.command.Command.{Command}
use Rattle.xxh_io.specs.Command.{command_of}

-- an argument that is not UTF-8 makes no command; every other error of getting the arguments is out of memory
abbrev pub IsArgumentFault : ErrorKind → Fault → Type 0
IsArgumentFault kind fault =
    (kind ≡ InvalidData → fault ≡ Usage) × (kind ≢ InvalidData → fault ≡ OutOfMemory)

-- the words are the arguments after the first
abbrev pub AreWords : List (List ℕ) → List (Bor (List ℕ)) → Type 0
AreWords texts words = map (λ word. word.now) words ≡ drop 1 texts

-- the arguments; or none, if out of memory
abbrev pub Asks : List (List ℕ) → Result (List (Bor (List ℕ))) Fault → Type 0
Asks texts (Ok words) = AreWords texts words
Asks texts (Err fault) = fault ≡ OutOfMemory

-- the command of the arguments, if there are any
abbrev pub command_asked : Result (List (Bor (List ℕ))) Fault → Result Command Fault
command_asked (Ok words) = command_of words
command_asked (Err fault) = Err fault

-- an error stays; without one, the flush at the end may fail
abbrev pub EndsAs : Result (Unit {0}) Fault → Result (Unit {0}) Fault → Type 0
EndsAs (Ok x) answer = IfErr answer (λ fault. fault ≡ Digest WriteFailed)
EndsAs (Err fault) answer = answer ≡ Err fault
