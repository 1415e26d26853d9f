-- The rules of a store below a directory of another one.
use Rattle.std.specs.Prelude.{◌≡◌, ℕ, ◌+◌, ◌==◌, Bool, true, false, ◌||◌, List, [], ◌∷◌, ◌++◌, Option, Some, None, MatchOption, codes, length, nat_eq, nat_le, pos, take, if◌then◌else◌}
use Rattle.xxh_io.specs.Refusal.{refusal_code, refusal_text}
use Rattle.xxh_io.specs.declared.refusal.Refusal.{Refusal}
use Rattle.xxhsum_fs.specs.Rules.{FolderRules, StoreRules}
use Rattle.xxhsum_fs.specs.declared.below.Below.{Below}
use Rattle.xxhsum_fs.specs.declared.below.Joined.{Joined}
use Rattle.xxhsum_fs.specs.declared.below.Path.{Path}
use Rattle.xxhsum_fs.specs.declared.below.Path.TheVariants as Paths
use Rattle.xxhsum_fs.specs.declared.folders.PathKind.{PathKind}
use Rattle.xxhsum_fs.specs.declared.folders.PathKind.TheVariants.{Unknown}

-- The store is this one, below this directory.
abbrev pub IsBelow : {S : Type 0} → List ℕ → S → Below S → Type 0
IsBelow directory store below = (below.directory.now ≡ directory) × (below.store.now ≡ store)

-- True if the name is empty or begins with a slash.
abbrev pub stays : List ℕ → Bool
stays [] = true
stays (first ∷ rest) = first == 47

-- The path of a name: the name itself if it stays or the directory is empty, otherwise the name below the directory.
-- There is none if that path has more than 4,095 bytes.
abbrev pub path_in : List ℕ → List ℕ → Option (List ℕ)
path_in directory name =
    if nat_eq (length directory) 0 || stays name then Some name
    else if nat_le (length directory + 1 + length name) 4095 then Some (directory ++ 47 ∷ name)
    else None

abbrev pub path_of : {S : Type 0} → Below S → List ℕ → Option (List ℕ)
path_of below name = path_in below.directory.now name

-- The error is the system's for a path that is too long: number 36 (`ENAMETOOLONG`) and its message.
abbrev pub IsTooLong : Refusal → Type 0
IsTooLong why = (refusal_code why ≡ pos 36) × (refusal_text why ≡ codes "File name too long")

abbrev pub IsKindTooLong : PathKind → Type 0
IsKindTooLong (Unknown why) = IsTooLong why
IsKindTooLong kind = ⊥

-- Each name has the rules of its path. A name without a path opens no file, and is no directory.
abbrev pub store_below : {S F : Type 0} → StoreRules S F → StoreRules (Below S) F
store_below rules = record {
  opens = λ below name file. MatchOption (path_of below name) ⊥ (λ path. rules.opens below.store.now path file);
  refuses = λ below name why. MatchOption (path_of below name) (IsTooLong why) (λ path. rules.refuses below.store.now path why);
  holds_directory = λ below name answer. MatchOption (path_of below name) (answer ≡ false) (λ path. rules.holds_directory below.store.now path answer);
  sizes = λ below name size. MatchOption (path_of below name) (size ≡ None) (λ path. rules.sizes below.store.now path size);
}

abbrev pub folders_below : {S : Type 0} → FolderRules S → FolderRules (Below S)
folders_below rules = record {
  holds = λ below folder names. MatchOption (path_of below folder) ⊥ (λ path. rules.holds below.store.now path names);
  closes = λ below folder why. MatchOption (path_of below folder) (IsTooLong why) (λ path. rules.closes below.store.now path why);
  leads = λ below name kind. MatchOption (path_of below name) (IsKindTooLong kind) (λ path. rules.leads below.store.now path kind);
}

-- ---- a path in a buffer (used by no public clause)

abbrev pub joined_bytes : Joined → List ℕ
joined_bytes joined = take joined.len joined.bytes

abbrev pub joined_count : Joined → ℕ
joined_count joined = joined.len

abbrev pub path_bytes : Path → List ℕ
path_bytes (Paths.Itself name) = name.now
path_bytes (Paths.Joined joined) = joined_bytes joined
