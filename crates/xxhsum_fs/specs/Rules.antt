-- The rules of a store as one record: the file that a name opens, the error if it opens none, whether it is a
-- directory, and its size. The rules of directories, and of the system's calls, as other records.
use Rattle.xxhsum_fs.specs.declared.calls.ReadCall as read_call
use Rattle.xxhsum_fs.specs.declared.calls.SystemCalls as system_calls
use Rattle.xxhsum_fs.specs.declared.folders.Folders as folders
use Rattle.xxhsum_fs.specs.declared.store.Store as store

-- `opens`, `refuses`, `holds_directory` and `sizes` of a store S, whose files are F.
abbrev pub StoreRules : Type 0 → Type 0 → Type 1
StoreRules S F = store.Ghosts S F

-- `holds`, `closes` and `leads` of a type with directories.
abbrev pub FolderRules : Type 0 → Type 1
FolderRules S = folders.Ghosts S

-- `gives` and `fails` of the calls that read.
abbrev pub ReadRules : Type 0 → Type 1
ReadRules R = read_call.Ghosts R

-- `looks_up`, `looks_up_itself`, `opens` and `opens_directory` of a process P, whose files are F and directories D.
abbrev pub CallRules : Type 0 → Type 0 → Type 0 → Type 1
CallRules P F D = system_calls.Ghosts P F D
