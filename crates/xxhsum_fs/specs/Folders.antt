-- The rules of directories, as clauses state them.
use Rattle.std.specs.Prelude.{ℕ, List}
use Rattle.xxhsum_fs.specs.declared.folders.FolderError.{FolderError}
use Rattle.xxhsum_fs.specs.declared.folders.FolderError.TheVariants.{Refused, OutOfMemory}
use Rattle.xxh_io.specs.declared.refusal.Refusal.{Refusal}

-- The directory can't be read, for this reason. `OutOfMemory` is possible for any directory.
abbrev pub ClosesFor : {S : Type 0} → (S → List ℕ → Refusal → Type 0) → S → List ℕ → FolderError → Type 0
ClosesFor closes store folder (Refused why) = closes store folder why
ClosesFor closes store folder OutOfMemory = Unit {0}
