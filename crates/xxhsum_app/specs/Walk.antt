-- The files below directories. A walk visits the names in a directory before the names that are waiting.
use Rattle.std.specs.Prelude.{◌≡◌, ℕ, Bool, true, false, List, [], ◌∷◌, ◌++◌, map, codes, nat_eq, reverse, if◌then◌else◌, IsPermutation, IsSorted, Result, Ok, Err}
use Rattle.std.specs.Cmp.Lexicographic.{slice_cmp}
use Rattle.std.specs.List.{ends_with, flat_map}
use Rattle.std.specs.Ordering.{nat_cmp}
use Rattle.xxhsum_app.specs.Prelude.{FolderRules, OutOfMemory, Refusal, Stop, StoreRules, Unread}
use Rattle.xxhsum_app.specs.Messages.{Messages, Reports}
use Rattle.xxhsum_app.specs.declared.walk.Waiting.{Waiting}
use Rattle.xxhsum_app.specs.declared.walk.Walked.{Walked}
use Rattle.xxhsum_fs.specs.declared.folders.PathKind.{PathKind}
use Rattle.xxhsum_fs.specs.declared.folders.PathKind.TheVariants.{File, Folder, Other, Unknown}
use Rattle.xxhsum_options.specs.Exclude.{is_excluded}
use Rattle.xxhsum_program.specs.Lines.{name_messages}
use Rattle.xxhsum_program.specs.declared.outcome.Reason.TheVariants.{Unopened}

-- A name, and true if it was given, false if it was found in a directory.
abbrev pub Place : Type 0
Place = List ℕ × Bool

abbrev pub given : List ℕ → Place
given name = (name, true)

-- The place of a name after a prefix: the directory that contains it, or nothing for a given name.
abbrev pub below : List ℕ → Bool → List ℕ → Place
below folder is_given name = (folder ++ name, is_given)

-- The result of a visit: a file, something other than a file or directory, a directory with its sorted names, a
-- directory that can't be read, or a name that can't be looked up.
pub data Seen : Type 0 where
  Leaf : List ℕ → Seen
  Passed : List ℕ → Seen
  Opened : List ℕ → List (List ℕ) → Seen
  Closed : List ℕ → Refusal → Seen
  Lost : List ℕ → Refusal → Seen

-- The facts that a walk needs: if a given name is a directory, the names in a directory or the reason why they can't be
-- read, and the type of a name in a directory.
pub record Tree : Type 1 where
  pub is_folder : List ℕ → Bool → Type 0
  pub holds : List ℕ → List (List ℕ) → Type 0
  pub closes : List ℕ → Refusal → Type 0
  pub leads : List ℕ → PathKind → Type 0

-- The tree of a store.
abbrev pub tree_of : {S F : Type 0} → StoreRules S F → FolderRules S → S → Tree
tree_of opening folders store = record {
  is_folder = λ name answer. opening.holds_directory store name answer;
  holds = λ folder names. folders.holds store folder names;
  closes = λ folder why. folders.closes store folder why;
  leads = λ name kind. folders.leads store name kind;
}

-- The name, unless one of these patterns matches it.
abbrev pub kept_name : List (List ℕ) → List ℕ → List (List ℕ)
kept_name patterns name = if is_excluded patterns name then [] else name ∷ []

-- The tree from which the names in directories are removed that one of these patterns matches.
abbrev pub without : List (List ℕ) → Tree → Tree
without patterns tree = record tree {
  holds = λ folder names. (all : List (List ℕ)) × tree.holds folder all × (names ≡ flat_map (kept_name patterns) all);
}

-- The name has this type. A link is followed if its name was given.
abbrev pub HasKindBy : (List ℕ → Bool → Type 0) → (List ℕ → PathKind → Type 0) → List ℕ → Bool → PathKind → Type 0
HasKindBy is_folder leads name false kind = leads name kind
HasKindBy is_folder leads name true File = is_folder name false
HasKindBy is_folder leads name true Folder = is_folder name true
HasKindBy is_folder leads name true kind = ⊥

abbrev pub HasKind : Tree → List ℕ → Bool → PathKind → Type 0
HasKind tree = HasKindBy tree.is_folder tree.leads

-- The name of a directory, with a slash appended unless it ends with one.
abbrev pub with_slash : List ℕ → List ℕ
with_slash name = if ends_with nat_eq name (codes "/") then name else name ++ 47 ∷ []

-- The second list has the names of the first one, sorted by their bytes.
abbrev pub IsInOrder : List (List ℕ) → List (List ℕ) → Type 0
IsInOrder names ordered = IsPermutation names ordered × IsSorted (slice_cmp nat_cmp) ordered

-- Reading the directory has this result.
abbrev pub IsIn : Tree → List ℕ → Seen → Type 0
IsIn tree name (Opened folder ordered) =
    (folder ≡ name) × ((names : List (List ℕ)) × tree.holds (with_slash name) names × IsInOrder names ordered)
IsIn tree name (Closed folder why) = (folder ≡ name) × tree.closes (with_slash name) why
IsIn tree name seen = ⊥

-- Visiting the place has this result.
abbrev pub IsSeen : Tree → Place → Seen → Type 0
IsSeen tree place (Leaf name) = (name ≡ place.0) × HasKind tree place.0 place.1 File
IsSeen tree place (Passed name) = (name ≡ place.0) × HasKind tree place.0 place.1 Other
IsSeen tree place (Opened name names) = HasKind tree place.0 place.1 Folder × IsIn tree place.0 (Opened name names)
IsSeen tree place (Closed name why) = HasKind tree place.0 place.1 Folder × IsIn tree place.0 (Closed name why)
IsSeen tree place (Lost name why) = (name ≡ place.0) × HasKind tree place.0 place.1 (Unknown why)

-- The places that are visited next.
abbrev pub below_of : Seen → List Place
below_of (Opened name names) = map (below (with_slash name) false) names
below_of seen = []

-- Visits of the first waiting place, one after another, have the results `trace`. The places `left` are still waiting.
abbrev pub Visits : Tree → List Place → List Seen → List Place → Type 0
Visits tree places [] left = left ≡ places
Visits tree [] (seen ∷ trace) left = ⊥
Visits tree (place ∷ places) (seen ∷ trace) left =
    IsSeen tree place seen × Visits tree (below_of seen ++ places) trace left

-- ---- the results of a walk

abbrev pub file_of : Seen → List (List ℕ)
file_of (Leaf name) = name ∷ []
file_of seen = []

-- The files, in order.
abbrev pub files_in : List Seen → List (List ℕ)
files_in trace = flat_map file_of trace

-- The message about a directory that can't be read, or about a name that can't be looked up.
abbrev pub closed_text : List ℕ → Refusal → List (List ℕ)
closed_text name why = name_messages name (Unread (Unopened why))

abbrev pub closed_of : Seen → List (List ℕ)
closed_of (Closed name why) = closed_text name why
closed_of (Lost name why) = closed_text name why
closed_of seen = []

abbrev pub closed_in : List Seen → List (List ℕ)
closed_in trace = flat_map closed_of trace

-- The directory that can't be read, or the name that can't be looked up.
abbrev pub lost_of : Seen → List (List ℕ)
lost_of (Closed name why) = name ∷ []
lost_of (Lost name why) = name ∷ []
lost_of seen = []

abbrev pub lost_in : List Seen → List (List ℕ)
lost_in trace = flat_map lost_of trace

-- The walk from these names ended with these files. Each directory or name that can't be read is in `lost` and was
-- reported.
abbrev pub WalksAll : {E : Type 0} → Tree → Messages E → List (List ℕ) → List (List ℕ) → List (List ℕ) → Type 0
WalksAll tree messages names files lost =
    (trace : List Seen) × Visits tree (map given names) trace [] × (files ≡ files_in trace)
    × (lost ≡ lost_in trace) × Reports messages (closed_in trace)

-- The walk ran out of memory. The messages of its visits were reported.
abbrev pub WalksSome : {E : Type 0} → Tree → Messages E → List (List ℕ) → Stop → Type 0
WalksSome tree messages names stop =
    (trace : List Seen) × (left : List Place) × (stop ≡ OutOfMemory)
    × Visits tree (map given names) trace left × Reports messages (closed_in trace)

-- ---- one step (used by no public clause)

abbrev pub place_of : Waiting → Place
place_of one = (one.name.items, one.is_given)

-- The waiting places. The last element of the list is visited first.
abbrev pub waiting_in : List Waiting → List Place
waiting_in waiting = reverse (map place_of waiting)

-- The places that wait, and the results so far.
pub record WalkState : Type 0 where
  pub waiting : List Place
  pub walked : Walked

abbrev pub state_of : List Waiting → Walked → WalkState
state_of waiting walked = record { waiting = waiting_in waiting; walked = walked }

-- The result of a visit was added, and the names below it are waiting. If out of memory, nothing was reported.
abbrev pub SeesOne : {E : Type 0} → (Seen → Type 0) → Messages E → WalkState → WalkState → Result (Unit {0}) Stop → Type 0
SeesOne is_seen messages old new (Ok _) =
    (seen : Seen) × is_seen seen × (new.waiting ≡ below_of seen ++ old.waiting)
    × (map (λ file. file.items) new.walked.files.items ≡ map (λ file. file.items) old.walked.files.items ++ file_of seen)
    × (map (λ name. name.items) new.walked.unread.items ≡ map (λ name. name.items) old.walked.unread.items ++ lost_of seen)
    × Reports messages (closed_of seen)
SeesOne is_seen messages old new (Err stop) = (stop ≡ OutOfMemory) × (messages.new ≡ messages.old)

abbrev pub SeesFolder : {E : Type 0} → Tree → List ℕ → Messages E → WalkState → WalkState → Result (Unit {0}) Stop → Type 0
SeesFolder tree name messages old new result = SeesOne (IsIn tree name) messages old new result
