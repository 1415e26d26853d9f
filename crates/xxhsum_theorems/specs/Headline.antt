-- Definitions of the main theorem.
use Rattle.std.specs.Prelude.{◌≡◌, ◌⊎◌, ◌↔◌, ℕ, Bool, false, List, [], ◌∷◌, ◌++◌}
use Rattle.xxh_io.specs.declared.refusal.Refusal.{Refusal}
use Rattle.xxhsum_fs.specs.Below.{folders_below, store_below}
use Rattle.xxhsum_fs.specs.Rules.{FolderRules, StoreRules}
use Rattle.xxhsum_fs.specs.declared.below.Below.{Below}
use Rattle.xxhsum_fs.specs.declared.folders.PathKind.{PathKind}
use Rattle.xxhsum_program.specs.Prelude.{AllByRecursion, SinkRules, Took, one_line}
use Rattle.xxhsum_app.specs.Walk.{Tree, given}
use Rattle.xxhsum_app.specs.WalkLaws.{IsSteady, LeadsTo}
use Rattle.xxhsum_audit.specs.Item.{IsAmong}
use Rattle.xxhsum_line.specs.Laws.{IsOneLine}
use Rattle.xxhsum_options.specs.Exclude.{is_excluded}
use Rattle.xxhsum_program.specs.Order.{Event, Printed, Reported}

-- the event writes one line
abbrev pub IsLine : Event → Type 0
IsLine (Printed bytes) = IsOneLine bytes
IsLine (Reported text) = IsOneLine (one_line text)

-- one line on standard output and no message, or one message on standard error and no line
abbrev pub IsLineOrMessage : List Event → Type 0
IsLineOrMessage events = (event : Event) × (events ≡ event ∷ []) × IsLine event

-- the same, or nothing
abbrev pub IsLineAtMost : List Event → Type 0
IsLineAtMost events = (events ≡ []) ⊎ IsLineOrMessage events

-- a beginning of the lines was printed, and then a write may have failed
abbrev pub PrintsBeginning : {W : Type 0} → SinkRules W → List ℕ → W → W → Type 0
PrintsBeginning {W} writing lines old new =
    (front rest : List ℕ) × (met : W) × (lines ≡ front ++ rest) × Took writing front old met
    × ((new ≡ met) ⊎ writing.refuses met new)

-- the names lead to the file through names in directories, none of which a pattern matches
abbrev pub LeadTo : List (List ℕ) → Tree → List (List ℕ) → List ℕ → Type 0
LeadTo patterns tree names file =
    (name : List ℕ) × (behind : List (List ℕ)) × IsAmong names name × LeadsTo tree (given name) behind file
    × AllByRecursion (λ one. is_excluded patterns one ≡ false) behind

-- The names lead to each of these files. They lead to no other file, if no directory changes meanwhile.
abbrev pub AreFilesBelow : List (List ℕ) → Tree → List (List ℕ) → List (List ℕ) → Type 0
AreFilesBelow patterns tree names files =
    ((file : List ℕ) → IsAmong files file → LeadTo patterns tree names file)
    × (IsSteady tree → (file : List ℕ) → LeadTo patterns tree names file → IsAmong files file)

-- in the store below a directory, the name leads to what this path leads to in the store
abbrev pub LeadsAs : {S F : Type 0} → StoreRules S F → FolderRules S → S → Below S → List ℕ → List ℕ → Type 0
LeadsAs {F = F} opening folders store below name path =
    ((file : F) → (store_below opening).opens below name file ↔ opening.opens store path file)
    × ((why : Refusal) → (store_below opening).refuses below name why ↔ opening.refuses store path why)
    × ((answer : Bool) → (store_below opening).holds_directory below name answer ↔ opening.holds_directory store path answer)
    × ((names : List (List ℕ)) → (folders_below folders).holds below name names ↔ folders.holds store path names)
    × ((why : Refusal) → (folders_below folders).closes below name why ↔ folders.closes store path why)
    × ((kind : PathKind) → (folders_below folders).leads below name kind ↔ folders.leads store path kind)
