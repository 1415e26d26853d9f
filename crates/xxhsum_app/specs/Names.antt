-- The names in lists of names.
use Rattle.std.specs.Prelude.{◌≡◌, ℕ, List, ◌++◌}
use Rattle.xxhsum_app.specs.Prelude.{Files, Input}
use Rattle.xxhsum_app.specs.Texts.{GiveTexts, LackText}
use Rattle.xxhsum_audit.specs.List.{GiveAll}
use Rattle.xxhsum_audit.specs.Parts.{ArePartsOf}
use Rattle.xxhsum_options.specs.declared.options.NamesFrom.{NamesFrom}
use Rattle.xxhsum_options.specs.declared.options.NamesFrom.TheVariants.{Words, Lines, Nuls}
use Rattle.xxhsum_program.specs.Command.{has_none}

-- The byte that ends each name of a list.
abbrev pub end_of : NamesFrom → ℕ
end_of Words = 10
end_of Lines = 10
end_of Nuls = 0

-- The names of a text were appended to the others.
abbrev pub AddsNames : ℕ → List ℕ → List (List ℕ) → List (List ℕ) → Type 0
AddsNames end text old new = (more : List (List ℕ)) × (new ≡ old ++ more) × ArePartsOf end text more

-- The names of all texts, in order, are these.
abbrev pub AreNamesIn : ℕ → List (List ℕ) → List (List ℕ) → Type 0
AreNamesIn end texts names = GiveAll (ArePartsOf end) texts names

-- The names in the lists are these. If there is no list, the input has the names.
abbrev pub ListNames : {S F R : Type 0} → Files S F → Input R → ℕ → List (List ℕ) → List (List ℕ) → Type 0
ListNames files input end lists names =
    (texts : List (List ℕ)) × GiveTexts files input lists texts (has_none lists) × AreNamesIn end texts names

-- One of the lists has no text, and `message` is the message about it. If there is no list, the input has none.
abbrev pub ListNone : {S F R : Type 0} → Files S F → Input R → List (List ℕ) → List ℕ → Type 0
ListNone files input lists message = LackText files input lists message (has_none lists)
