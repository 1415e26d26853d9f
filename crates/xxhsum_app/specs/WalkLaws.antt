-- Laws of walks: the files of a walk are the files that names in directories lead to.
use Rattle.std.specs.Prelude.{◌≡◌, ◌<◌, ℕ, Bool, false, List, [], ◌∷◌, length, map, IsPermutation}
use Rattle.xxhsum_app.specs.Walk.{HasKind, Place, Seen, Tree, Visits, below, files_in, given, lost_in, with_slash}
use Rattle.xxhsum_audit.specs.Item.{IsAmong}
use Rattle.xxhsum_fs.specs.declared.folders.PathKind.{PathKind}
use Rattle.xxhsum_fs.specs.declared.folders.PathKind.TheVariants.{File, Folder}
use Rattle.xxhsum_line.specs.Parts.{Lacks}

-- Each name leads to one thing, and each directory has the same names whenever it is read, in any order.
pub record IsSteady (tree : Tree) : Type 0 where
  pub one_answer : (name : List ℕ) (a b : Bool) → tree.is_folder name a → tree.is_folder name b → a ≡ b
  pub one_kind : (name : List ℕ) (a b : PathKind) → tree.leads name a → tree.leads name b → a ≡ b
  pub same_names : (folder : List ℕ) (a b : List (List ℕ)) → tree.holds folder a → tree.holds folder b → IsPermutation a b

-- The directory contains this name.
abbrev pub HoldsName : Tree → List ℕ → List ℕ → Type 0
HoldsName tree folder name = (names : List (List ℕ)) × tree.holds folder names × IsAmong names name

-- The names lead from the place to the file. Each name is in the directory before it, and the last one is the file's.
abbrev pub LeadsTo : Tree → Place → List (List ℕ) → List ℕ → Type 0
LeadsTo tree place [] file = (file ≡ place.0) × HasKind tree place.0 place.1 File
LeadsTo tree place (name ∷ names) file =
    HasKind tree place.0 place.1 Folder × HoldsName tree (with_slash place.0) name
    × LeadsTo tree (below (with_slash place.0) false name) names file

-- A complete walk finds each file below its names, if the tree is steady and no directory or name was unreadable.
abbrev pub FindsEachFile : Tree → Type 0
FindsEachFile tree =
    (names : List (List ℕ)) (trace : List Seen) (name : List ℕ) (behind : List (List ℕ)) (file : List ℕ)
    → IsSteady tree → Visits tree (map given names) trace [] → lost_in trace ≡ []
    → IsAmong names name → LeadsTo tree (given name) behind file → IsAmong (files_in trace) file

-- A walk finds no other file.
abbrev pub FindsNoOther : Tree → Type 0
FindsNoOther tree =
    (names : List (List ℕ)) (trace : List Seen) (left : List Place) (file : List ℕ)
    → Visits tree (map given names) trace left → IsAmong (files_in trace) file
    → (name : List ℕ) × (behind : List (List ℕ)) × IsAmong names name × LeadsTo tree (given name) behind file

-- Each name in a directory occurs there once, is not empty, and has no slash.
pub record HoldsNames (tree : Tree) : Type 0 where
  pub once : (folder : List ℕ) (names : List (List ℕ)) (name : List ℕ) (rest : List (List ℕ)) → tree.holds folder names
      → IsPermutation names (name ∷ name ∷ rest) → ⊥
  pub plain : (folder : List ℕ) (names : List (List ℕ)) (name : List ℕ) → tree.holds folder names → IsAmong names name
      → (0 < length name) × Lacks 47 name

-- No element occurs twice.
abbrev pub IsOnce : {X : Type 0} → List X → Type 0
IsOnce [] = Unit {0}
IsOnce (x ∷ xs) = (IsAmong xs x → ⊥) × IsOnce xs

-- A walk from one name finds no path twice, if the names in directories are as above.
abbrev pub FindsOnce : Tree → Type 0
FindsOnce tree =
    (name : List ℕ) (trace : List Seen) (left : List Place)
    → HoldsNames tree → Visits tree (given name ∷ []) trace left → IsOnce (files_in trace)
