-- The meaning of a good audit.
use Rattle.std.specs.Prelude.{◌≡◌, ℕ, true, List, Ok}
use Rattle.xxhsum_app.specs.Prelude.{Files, Options, SourceRules, StoreRules, StreamRules, Streams, effect_of, files_of}
use Rattle.xxhsum_app.specs.Audits.{Audits}
use Rattle.xxhsum_app.specs.ReadList.{ListSays}
use Rattle.xxhsum_audit.specs.Item.{IsAmong, Item, kind_of, normalize_path, path_of, value_of}
use Rattle.xxhsum_program.specs.Outcomes.{IsValueOf}

-- The name leads to the line's path, and reads of its file returned bytes with the line's value.
abbrev pub IsFileOf : {S F : Type 0} → Files S F → Item → List ℕ → Type 0
IsFileOf files line name =
    (path_of line ≡ normalize_path name) × IsValueOf files (kind_of line) name (value_of line)

-- Each line of the list has a file among the names, and each name is that of such a line.
abbrev pub AuditMeansEqual : {S F W E : Type 0} → StoreRules S F → SourceRules F → StreamRules W E → Type 0
AuditMeansEqual {S} {F} {W} {E} opening reading rules =
    (store : S) (options : Options) (list : List ℕ) (lost names : List (List ℕ)) (old new : Streams W E)
    → let files = files_of opening reading store in
    Audits files (effect_of rules old new (Ok true)) options lost list names
    → (lines : List Item) × ListSays files options.is_little_endian list lines
    × ((line : Item) → IsAmong lines line → (name : List ℕ) × IsAmong names name × IsFileOf files line name)
    × ((name : List ℕ) → IsAmong names name → (line : Item) × IsAmong lines line × IsFileOf files line name)
