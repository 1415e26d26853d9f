-- The command that the arguments are parsed as.
use Rattle.std.proofs.Common.{zero, suc, ℕ, ◌<◌, ◌≤◌, ◌^◌, List, [], ◌∷◌, length, ◌&&◌, nat_lt, bytes_eq, codes, if◌then◌else◌, Result, Ok, Err}
use Rattle.std.specs.Borrow.{Bor}
use Rattle.std.specs.Str.{all_ascii_digits}
use Rattle.std.specs.Str.Parse.{digits_value}
use Rattle.xxh_io.specs.Kind.{seed_limit}
use Rattle.xxh_io.specs.declared.kind.Kind.{Kind}
use Rattle.xxh_io.specs.declared.kind.Kind.TheVariants.{X32, X64, X3_64, X3_128}
use Rattle.xxh_io.specs.declared.kind.SavedKind.{SavedKind}
use Rattle.xxh_io.specs.declared.kind.SavedKind.TheVariants as Saved
use Rattle.xxh_io.specs.declared.fault.Fault.{Fault}
use Rattle.xxh_io.specs.declared.fault.Fault.TheVariants.{Usage, BadSeed, BadSize}
use Rattle.xxh_io.specs.declared.command.Command.{Command}
use Rattle.xxh_io.specs.declared.command.Command.TheVariants.{Hash, Save32, Save64, Resume32, Resume64, Blocks}

-- the algorithm of this name
abbrev pub kind_named : List ℕ → Result Kind Fault
kind_named name =
    if bytes_eq name (codes "32") then Ok X32
    else if bytes_eq name (codes "64") then Ok X64
    else if bytes_eq name (codes "3-64") then Ok X3_64
    else if bytes_eq name (codes "3-128") then Ok X3_128
    else Err Usage

-- the number written as one or more decimal digits, leading zeros included, if it is below the limit
abbrev pub number_named : Fault → ℕ → List ℕ → Result ℕ Fault
number_named fault limit word =
    if nat_lt 0 (length word) && (all_ascii_digits word && nat_lt (digits_value 10 word) limit)
    then Ok (digits_value 10 word)
    else Err fault

abbrev pub seed_named : ℕ → List ℕ → Result ℕ Fault
seed_named limit word = number_named BadSeed limit word

-- the algorithm is tested before the seed
abbrev pub hash_with : Kind → Result ℕ Fault → Result Command Fault
hash_with kind (Ok seed) = Ok (Hash kind seed)
hash_with kind (Err fault) = Err fault

abbrev pub hash_of : Result Kind Fault → List ℕ → Result Command Fault
hash_of (Ok kind) seed = hash_with kind (seed_named (seed_limit kind) seed)
hash_of (Err fault) seed = Err fault

abbrev pub hash_command : List ℕ → List ℕ → Result Command Fault
hash_command kind seed = hash_of (kind_named kind) seed

-- the algorithm of this name, if its hashers have saved states
abbrev pub saved_kind_named : List ℕ → Result SavedKind Fault
saved_kind_named name =
    if bytes_eq name (codes "32") then Ok Saved.X32
    else if bytes_eq name (codes "64") then Ok Saved.X64
    else Err Usage

abbrev pub save_32 : Result ℕ Fault → Result Command Fault
save_32 (Ok seed) = Ok (Save32 seed)
save_32 (Err fault) = Err fault

abbrev pub save_64 : Result ℕ Fault → Result Command Fault
save_64 (Ok seed) = Ok (Save64 seed)
save_64 (Err fault) = Err fault

abbrev pub save_of : Result SavedKind Fault → List ℕ → Result Command Fault
save_of (Ok Saved.X32) seed = save_32 (seed_named (2 ^ 32) seed)
save_of (Ok Saved.X64) seed = save_64 (seed_named (2 ^ 64) seed)
save_of (Err fault) seed = Err fault

abbrev pub save_command : List ℕ → List ℕ → Result Command Fault
save_command kind seed = save_of (saved_kind_named kind) seed

-- the text is read later
abbrev pub resume_of : Result SavedKind Fault → Bor (List ℕ) → Result Command Fault
resume_of (Ok Saved.X32) json = Ok (Resume32 json)
resume_of (Ok Saved.X64) json = Ok (Resume64 json)
resume_of (Err fault) json = Err fault

abbrev pub resume_command : List ℕ → Bor (List ℕ) → Result Command Fault
resume_command kind json = resume_of (saved_kind_named kind) json

-- a block has at least one byte
abbrev pub blocks_of : Result ℕ Fault → Result Command Fault
blocks_of (Ok zero) = Err BadSize
blocks_of (Ok (suc n)) = Ok (Blocks (suc n))
blocks_of (Err fault) = Err fault

abbrev pub blocks_command : List ℕ → Result Command Fault
blocks_command size = blocks_of (number_named BadSize (2 ^ 64) size)

-- the command of the arguments after the program's name; without a seed it is 0
abbrev pub command_of : List (Bor (List ℕ)) → Result Command Fault
command_of (name ∷ word ∷ []) =
    if bytes_eq name.now (codes "hash") then hash_command word.now (codes "0")
    else if bytes_eq name.now (codes "save") then save_command word.now (codes "0")
    else if bytes_eq name.now (codes "blocks") then blocks_command word.now
    else Err Usage
command_of (name ∷ kind ∷ last ∷ []) =
    if bytes_eq name.now (codes "hash") then hash_command kind.now last.now
    else if bytes_eq name.now (codes "save") then save_command kind.now last.now
    else if bytes_eq name.now (codes "resume") then resume_command kind.now last
    else Err Usage
command_of _ = Err Usage

-- a command's seed is one of its algorithm, and a block has at least one byte
abbrev pub NumberFits : Command → Type 0
NumberFits (Hash kind seed) = seed < seed_limit kind
NumberFits (Blocks size) = 1 ≤ size
NumberFits _ = Unit {0}
