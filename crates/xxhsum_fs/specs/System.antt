-- The rules of the system's files, over what its calls return. A name that is not UTF-8 is passed to no call.
use Rattle.std.specs.Prelude.{◌≡◌, ◌≢◌, ◌↔◌, ◌⊎◌, Bool, false, IsTrue, ℕ, List, Option, Some, None, Result, Ok, Err, pos, is_ok, IsUtf8}
use Rattle.std.specs.Fs.{IsDir, IsFile, file_type, metadata_len}
use Rattle.std.specs.declared.fs.Metadata.{Metadata}
use Rattle.std.specs.declared.io.Error.{Error}
use Rattle.xxh_io.specs.Refusal.{refusal_code}
use Rattle.xxh_io.specs.declared.refusal.Refusal.{Refusal}
use Rattle.xxhsum_fs.specs.Calls.{IsReasonOf, code_of}
use Rattle.xxhsum_fs.specs.Entries.{EndsFor, Lists}
use Rattle.xxhsum_fs.specs.Rules.{CallRules, ReadRules}
use Rattle.xxhsum_fs.specs.Uninterrupted.{failure_of, interrupted_reader}
use Rattle.xxhsum_fs.specs.declared.folders.FolderError.TheVariants.{Refused}
use Rattle.xxhsum_fs.specs.declared.folders.PathKind.{PathKind}
use Rattle.xxhsum_fs.specs.declared.folders.PathKind.TheVariants.{File, Folder, Other, Unknown}
use Rattle.xxhsum_fs.specs.declared.system.SystemFiles.{SystemFiles}
use Rattle.xxhsum_fs.specs.declared.uninterrupted.Uninterrupted.{Uninterrupted}

-- The process.
abbrev pub process_of : {P : Type 0} → SystemFiles P → P
process_of files = files.process.now

-- The reason for a name that is not UTF-8 has the error number 84, so the name is not missing.
abbrev pub IsNoText : List ℕ → Refusal → Type 0
IsNoText name why = ¬ IsUtf8 name × (refusal_code why ≡ pos 84)

-- The call that opens the name returned this file, from which nothing was read yet.
abbrev pub Opens : {P F D : Type 0} → CallRules P F D → SystemFiles P → List ℕ → Uninterrupted F → Type 0
Opens calls files name file =
    IsUtf8 name × calls.opens (process_of files) name (Ok (interrupted_reader file)) × (failure_of file ≡ None)

-- The name is not UTF-8, or the call that opens it failed with this error number.
abbrev pub RefusesFor : {P F D : Type 0} → CallRules P F D → SystemFiles P → List ℕ → Refusal → Type 0
RefusesFor calls files name why =
    IsNoText name why
    ⊎ (IsUtf8 name × ((error : Error) × calls.opens (process_of files) name (Err error) × IsReasonOf error why))

-- True if the look-up found a directory. If the look-up failed, true if the name opens as a directory.
abbrev pub IsFolderBy : {P F D : Type 0} → CallRules P F D → SystemFiles P → List ℕ → Result Metadata Error → Bool → Type 0
IsFolderBy calls files name (Ok found) answer = IsTrue answer ↔ IsDir (file_type found)
IsFolderBy {P} {F} {D} calls files name (Err error) answer =
    (opened : Result D Error) × calls.opens_directory (process_of files) name opened × (answer ≡ is_ok opened)

-- A name that is not UTF-8 is no directory.
abbrev pub HasAnswer : {P F D : Type 0} → CallRules P F D → SystemFiles P → List ℕ → Bool → Type 0
HasAnswer calls files name answer =
    (¬ IsUtf8 name × (answer ≡ false))
    ⊎ (IsUtf8 name × ((found : Result Metadata Error) × calls.looks_up (process_of files) name found
    × IsFolderBy calls files name found answer))

-- A file has the size that was looked up. Nothing else has a size.
abbrev pub IsSizeOf : Result Metadata Error → Option ℕ → Type 0
IsSizeOf (Ok found) None = ¬ IsFile (file_type found)
IsSizeOf (Ok found) (Some size) = IsFile (file_type found) × (size ≡ metadata_len found)
IsSizeOf (Err error) size = size ≡ None

abbrev pub HasSize : {P F D : Type 0} → CallRules P F D → SystemFiles P → List ℕ → Option ℕ → Type 0
HasSize calls files name size =
    (¬ IsUtf8 name × (size ≡ None))
    ⊎ (IsUtf8 name × ((found : Result Metadata Error) × calls.looks_up (process_of files) name found × IsSizeOf found size))

-- The type is that of the look-up. If the look-up failed, a missing name (`ENOENT`) counts as a file, and any other
-- error is the reason why the type is unknown.
abbrev pub IsKindOf : Result Metadata Error → PathKind → Type 0
IsKindOf (Ok found) Folder = IsDir (file_type found)
IsKindOf (Ok found) File = IsFile (file_type found)
IsKindOf (Ok found) Other = ¬ IsDir (file_type found) × ¬ IsFile (file_type found)
IsKindOf (Ok found) (Unknown why) = ⊥
IsKindOf (Err error) Folder = ⊥
IsKindOf (Err error) File = code_of error ≡ pos 2
IsKindOf (Err error) Other = ⊥
IsKindOf (Err error) (Unknown why) = (code_of error ≢ pos 2) × IsReasonOf error why

-- A name that is not UTF-8 counts as a file.
abbrev pub LeadsTo : {P F D : Type 0} → CallRules P F D → SystemFiles P → List ℕ → PathKind → Type 0
LeadsTo calls files name kind =
    (¬ IsUtf8 name × (kind ≡ File))
    ⊎ (IsUtf8 name × ((found : Result Metadata Error) × calls.looks_up_itself (process_of files) name found
    × IsKindOf found kind))

-- The directory was opened, and its reads returned these names.
abbrev pub HoldsNames : {P F D : Type 0} → CallRules P F D → ReadRules D → SystemFiles P → List ℕ → List (List ℕ) → Type 0
HoldsNames {P} {F} {D} calls reads files folder names =
    IsUtf8 folder × ((directory : D) × calls.opens_directory (process_of files) folder (Ok directory) × Lists reads directory names)

-- The name is not UTF-8; or the call that opens the directory failed with this error number; or a read of it did.
abbrev pub ClosesNames : {P F D : Type 0} → CallRules P F D → ReadRules D → SystemFiles P → List ℕ → Refusal → Type 0
ClosesNames {P} {F} {D} calls reads files folder why =
    IsNoText folder why
    ⊎ (IsUtf8 folder × (((error : Error) × calls.opens_directory (process_of files) folder (Err error) × IsReasonOf error why)
    ⊎ ((directory : D) × calls.opens_directory (process_of files) folder (Ok directory) × EndsFor reads directory (Refused why))))
