-- The texts about the program, and how they are printed.
use Rattle.std.specs.Prelude.{◌≡◌, ℕ, List, [], ◌∷◌, Option, Some, None, IfErr, Result, Ok, Err, bytes_eq, codes, if◌then◌else◌}
use Rattle.std.specs.Io.KnownBytes.{Keeps}
use Rattle.xxh_io.specs.Digest.{Writes}
use Rattle.xxh_io.specs.FromWrite.{writer_of}
use Rattle.xxh_io.specs.Rules.{SinkRules}
use Rattle.xxh_io.specs.declared.digest_error.DigestError.{DigestError}
use Rattle.xxh_io.specs.declared.digest_error.DigestError.TheVariants.{WriteFailed}
use Rattle.xxh_io.specs.declared.fault.Fault.{Fault}
use Rattle.xxh_io.specs.declared.fault.Fault.TheVariants.{Digest}
use Rattle.xxh_io.specs.declared.from_write.FromWrite.{FromWrite}
use Rattle.xxh_program.specs.declared.program.information.Information.{Information}
use Rattle.xxh_program.specs.declared.program.information.Information.TheVariants.{Help, Version}
use Rattle.xxh_program.specs.declared.program.information.TheConstants.{HELP, VERSION}

abbrev pub information_named : List ℕ → Option Information
information_named word =
    if bytes_eq word (codes "--help") then Some Help
    else if bytes_eq word (codes "--version") then Some Version
    else None

-- what the arguments ask about the program: the only one after its name
abbrev pub information_of : List (List ℕ) → Option Information
information_of [] = None
information_of (name ∷ []) = None
information_of (name ∷ word ∷ []) = information_named word
information_of (name ∷ word ∷ more ∷ words) = None

abbrev pub information_text : Information → List ℕ
information_text Help = HELP.now
information_text Version = VERSION.now

-- the error of a write stays; without one, the flush may fail
abbrev pub PrintsAs : Result (Unit {0}) DigestError → Result (Unit {0}) Fault → Type 0
PrintsAs (Ok x) answer = IfErr answer (λ fault. fault ≡ Digest WriteFailed)
PrintsAs (Err e) answer = answer ≡ Err (Digest e)

-- the text is written, and the flush keeps the bytes
abbrev pub PrintsInformation : {W : Type 0} → SinkRules (FromWrite W) → (W → Option (List ℕ)) → Information
    → FromWrite W → FromWrite W → Result (Unit {0}) Fault → Type 0
PrintsInformation {W} writing contents information old new answer =
    (written : FromWrite W) × (ran : Result (Unit {0}) DigestError)
    × Writes writing (information_text information) old written ran × PrintsAs ran answer
    × Keeps (contents (writer_of written)) (contents (writer_of new))
