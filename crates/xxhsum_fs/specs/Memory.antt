-- The sources that the names of a table open.
use Rattle.std.specs.Prelude.{◌≡◌, ℕ, List, Bool, true, false, Option, Some, option_map, find, bytes_eq, unwrap_or, MatchOption, pos}
use Rattle.xxhsum_fs.specs.declared.memory.MemoryEntry.{MemoryEntry}
use Rattle.xxhsum_fs.specs.declared.memory.MemoryFiles.{MemoryFiles}
use Rattle.xxh_io.specs.declared.refusal.Refusal.{Refusal}
use Rattle.xxh_io.specs.Refusal.{refusal_code}

-- The entries of the table.
abbrev pub entries_of : {S : Type 0} → MemoryFiles S → List (MemoryEntry S)
entries_of files = files.entries.now

-- The first entry with this name.
abbrev pub entry_named : {S : Type 0} → MemoryFiles S → List ℕ → Option (MemoryEntry S)
entry_named files name = find (λ entry. bytes_eq entry.name.now name) (entries_of files)

-- The file is the source of the name's first entry, in its state in the table.
abbrev pub LeadsTo : {S : Type 0} → MemoryFiles S → List ℕ → S → Type 0
LeadsTo files name file = option_map (λ entry. entry.source) (entry_named files name) ≡ Some file

-- The code is 2 (missing file) if no entry has the name, and 5 (failed read) if its first entry's source has failed.
abbrev pub RefusedFor : {S : Type 0} → (S → Bool) → MemoryFiles S → List ℕ → Refusal → Type 0
RefusedFor has_failed files name why =
    MatchOption (entry_named files name) (refusal_code why ≡ pos 2)
    (λ entry. (has_failed entry.source ≡ true) × (refusal_code why ≡ pos 5))

-- True if the name's first entry is a directory.
abbrev pub is_directory_named : {S : Type 0} → MemoryFiles S → List ℕ → Bool
is_directory_named files name =
    unwrap_or (option_map (λ entry. entry.is_directory) (entry_named files name)) false
