-- The items of a list's lines.
use Rattle.std.specs.Prelude.{ℕ, ◌≡◌, Bool, true, false, List, [], ◌∷◌, ◌++◌}
use Rattle.xxhsum_line.specs.Entry as line
use Rattle.xxhsum_line.specs.Entry.{SaysNothing, is_comment}
use Rattle.xxhsum_line.specs.declared.entry.Entry.{Entry}
use Rattle.xxhsum_audit.specs.Item.{Item, Says, kind_of, name_of, value_of}

-- The item of an entry.
abbrev pub entry_item : Entry → Item
entry_item entry = Says entry.name.items entry.kind entry.value

-- The items of one line: none for a comment, one for an entry.
abbrev pub SaysOne : Bool → List ℕ → List Item → Type 0
SaysOne is_little text [] = is_comment text ≡ true
SaysOne is_little text (item ∷ []) = line.Says is_little text (kind_of item) (value_of item) (name_of item)
SaysOne is_little text (item ∷ next ∷ items) = ⊥

-- The results of the texts, one after another, are `all`.
abbrev pub GiveAll : {X : Type 0} → (List ℕ → List X → Type 0) → List (List ℕ) → List X → Type 0
GiveAll gives [] all = all ≡ []
GiveAll {X} gives (text ∷ texts) all =
    (front rest : List X) × (all ≡ front ++ rest) × gives text front × GiveAll gives texts rest

-- The lines have these items.
abbrev pub SayAll : Bool → List (List ℕ) → List Item → Type 0
SayAll is_little lines items = GiveAll (SaysOne is_little) lines items

-- If the flag is true, the line's item was appended, or nothing for a comment. If it is false, the line is malformed.
abbrev pub TakesLine : Bool → List ℕ → List Item → List Item → Bool → Type 0
TakesLine is_little text old new true = (more : List Item) × (new ≡ old ++ more) × SaysOne is_little text more
TakesLine is_little text old new false = SaysNothing is_little text
