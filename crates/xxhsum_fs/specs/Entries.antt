-- The names that the reads of a directory return.
use Rattle.std.specs.Prelude.{◌≡◌, ℕ, Bool, not, ◌||◌, ◌==◌, List, [], ◌∷◌, ◌++◌, flat_map, bytes_eq, codes, if◌then◌else◌}
use Rattle.std.specs.declared.io.Error.{Error}
use Rattle.xxh_io.specs.Pieces.{NoneEmpty, Pieces}
use Rattle.xxhsum_fs.specs.Calls.{IsReasonOf}
use Rattle.xxhsum_fs.specs.Rules.{ReadRules}
use Rattle.xxhsum_fs.specs.Uninterrupted.{FailsAtLast, GivesAtLast}
use Rattle.xxhsum_fs.specs.declared.folders.FolderError.{FolderError}
use Rattle.xxhsum_fs.specs.declared.folders.FolderError.TheVariants.{Refused, OutOfMemory}

-- The parts of `part` and then these bytes between NULs.
abbrev pub parts_from : List ℕ → List ℕ → List (List ℕ)
parts_from part [] = part ∷ []
parts_from part (byte ∷ bytes) =
    if byte == 0 then part ∷ parts_from [] bytes else parts_from (part ++ byte ∷ []) bytes

-- True unless the name is empty, `.` or `..`.
abbrev pub is_entry : List ℕ → Bool
is_entry name = not (bytes_eq name [] || (bytes_eq name (codes ".") || bytes_eq name (codes "..")))

-- The name, unless it is empty, `.` or `..`.
abbrev pub entry_of : List ℕ → List (List ℕ)
entry_of name = if is_entry name then name ∷ [] else []

-- The names that these bytes have, with a NUL after each, except `.` and `..`.
abbrev pub entries_of : List ℕ → List (List ℕ)
entries_of bytes = flat_map entry_of (parts_from [] bytes)

-- The reads of the directory returned these names, up to the end: the first read that returned nothing.
abbrev pub Lists : {D : Type 0} → ReadRules D → D → List (List ℕ) → Type 0
Lists {D} calls directory names =
    (pieces : List (List ℕ)) × (end : D) × NoneEmpty pieces
    × Pieces (GivesAtLast calls) directory (pieces ++ [] ∷ []) end × (names ≡ flat_map entries_of pieces)

-- A read of the directory failed, and this is the reason. `OutOfMemory` is possible for any directory.
abbrev pub EndsFor : {D : Type 0} → ReadRules D → D → FolderError → Type 0
EndsFor {D} calls directory (Refused why) =
    (pieces : List (List ℕ)) × (met end : D) × (error : Error) × NoneEmpty pieces
    × Pieces (GivesAtLast calls) directory pieces met × FailsAtLast calls met error end × IsReasonOf error why
EndsFor calls directory OutOfMemory = Unit {0}
