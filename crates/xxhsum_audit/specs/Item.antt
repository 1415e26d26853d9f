-- The digest of a file: a name, an algorithm and a value.
use Rattle.std.specs.Prelude.{ℕ, ◌≡◌, ◌≢◌, ◌⊎◌, Bool, List, [], ◌∷◌, Option, codes, map, nat_eq, option_map, take, if◌then◌else◌}
use Rattle.std.specs.Borrow.{Bor}
use Rattle.std.specs.Cmp.Lexicographic.{pointwise}
use Rattle.xxh_io.specs.declared.kind.Kind.{Kind}
use Rattle.xxhsum_audit.specs.declared.digest.FileDigest.{FileDigest}

pub data Item : Type 0 where
  Says : List ℕ → Kind → ℕ → Item

abbrev pub name_of : Item → List ℕ
name_of (Says name kind value) = name

abbrev pub kind_of : Item → Kind
kind_of (Says name kind value) = kind

abbrev pub value_of : Item → ℕ
value_of (Says name kind value) = value

abbrev pub names_of : List Item → List (List ℕ)
names_of items = map name_of items

abbrev pub item_of : FileDigest → Item
item_of one = Says one.name.now one.kind one.value

abbrev pub item_in : Option FileDigest → Option Item
item_in one = option_map item_of one

abbrev pub items_of : List FileDigest → List Item
items_of digests = map item_of digests

-- The bytes of borrowed texts.
abbrev pub texts_of : List (Bor (List ℕ)) → List (List ℕ)
texts_of texts = map (λ text. text.now) texts

-- ---- the path of a name

abbrev pub is_dotted : List ℕ → Bool
is_dotted name = pointwise nat_eq (take 2 name) (codes "./")

-- The name without each `./` at its beginning.
unfoldable pub normalize_path : List ℕ → List ℕ
normalize_path [] = []
normalize_path (c ∷ []) = c ∷ []
normalize_path (c ∷ d ∷ name) = if is_dotted (c ∷ d ∷ name) then normalize_path name else c ∷ d ∷ name

abbrev pub path_of : Item → List ℕ
path_of item = normalize_path (name_of item)

-- ---- items of a list

-- The element is in the list.
abbrev pub IsAmong : {X : Type 0} → List X → X → Type 0
IsAmong [] x = ⊥
IsAmong (first ∷ xs) x = (first ≡ x) ⊎ IsAmong xs x

-- No item has this path.
abbrev pub LacksPath : List Item → List ℕ → Type 0
LacksPath items path = (item : Item) → IsAmong items item → path_of item ≢ path

-- Both items have the same value by the same algorithm.
abbrev pub HasSameDigest : Item → Item → Type 0
HasSameDigest a b = (kind_of a ≡ kind_of b) × (value_of a ≡ value_of b)
