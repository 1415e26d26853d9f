-- The orders of names and of items, and sorted lists.
use Rattle.std.specs.Prelude.{ℕ, ◌≡◌, ◌==◌, ◌&&◌, ◌||◌, Bool, true, false, List, [], ◌∷◌, Option, Some, None, bytes_eq, codes, drop, length, nat_eq, if◌then◌else◌, IsPermutation}
use Rattle.std.specs.List.{ends_with, starts_with}
use Rattle.std.specs.Cmp.Lexicographic.{slice_cmp}
use Rattle.std.specs.declared.cmp.Ordering.{Ordering}
use Rattle.std.specs.declared.cmp.Ordering.TheVariants.{Less}
use Rattle.std.specs.Ordering.{nat_cmp, ordering_then, is_eq, is_lt}
use Rattle.xxh_io.specs.declared.kind.Kind.{Kind}
use Rattle.xxh_io.specs.declared.kind.Kind.TheVariants.{X32, X64, X3_64, X3_128}
use Rattle.xxhsum_audit.specs.Item.{IsAmong, Item, kind_of, name_of, normalize_path, value_of}

-- The position of an algorithm among the algorithms.
abbrev pub rank_of : Kind → ℕ
rank_of X32 = 0
rank_of X64 = 1
rank_of X3_64 = 2
rank_of X3_128 = 3

-- The order of names by path.
abbrev pub compare_paths : List ℕ → List ℕ → Ordering
compare_paths a b = slice_cmp nat_cmp (normalize_path a) (normalize_path b)

-- The order of names by path, and of names with the same path by all their bytes.
abbrev pub rank_names : List ℕ → List ℕ → Ordering
rank_names a b = ordering_then (compare_paths a b) (slice_cmp nat_cmp a b)

abbrev pub compare_lines : Item → Item → Ordering
compare_lines a b = compare_paths (name_of a) (name_of b)

abbrev pub rank_lines : Item → Item → Ordering
rank_lines a b = rank_names (name_of a) (name_of b)

abbrev pub compare_digests : Item → Item → Ordering
compare_digests a b =
    ordering_then (nat_cmp (rank_of (kind_of a)) (rank_of (kind_of b))) (nat_cmp (value_of a) (value_of b))

abbrev pub rank_digests : Item → Item → Ordering
rank_digests a b = ordering_then (compare_digests a b) (rank_lines a b)

-- ---- names below a directory

abbrev pub is_tail : List ℕ → Bool
is_tail [] = true
is_tail (c ∷ cs) = c == 47

abbrev pub holds_path : List ℕ → List ℕ → Bool
holds_path base path =
    starts_with nat_eq path base
    && (length base == 0 || (ends_with nat_eq base (codes "/") || is_tail (drop (length base) path)))

-- True if the path of the name is that of the directory, or below it. All paths are below `.`.
abbrev pub hides : List ℕ → List ℕ → Bool
hides folder name =
    bytes_eq (normalize_path folder) (codes ".") || holds_path (normalize_path folder) (normalize_path name)

-- ---- sorted lists

-- No element is less than an element before it.
abbrev pub Ascends : {X : Type 0} → (X → X → Ordering) → List X → Type 0
Ascends compare [] = Unit {0}
Ascends {X} compare (x ∷ xs) = ((y : X) → IsAmong xs y → is_lt (compare y x) ≡ false) × Ascends compare xs

-- Each element is less than the elements after it.
abbrev pub Rises : {X : Type 0} → (X → X → Ordering) → List X → Type 0
Rises compare [] = Unit {0}
Rises {X} compare (x ∷ xs) = ((y : X) → IsAmong xs y → compare x y ≡ Less) × Rises compare xs

-- The second list has the elements of the first one, sorted.
abbrev pub IsOrder : {X : Type 0} → (X → X → Ordering) → List X → List X → Type 0
IsOrder compare given ordered = IsPermutation given ordered × Ascends compare ordered

-- ---- names with the same path

-- True if the first of the others has the path of this name.
abbrev pub shares_path : List ℕ → List (List ℕ) → Bool
shares_path name [] = false
shares_path name (next ∷ names) = is_eq (compare_paths name next)

-- The first name with the path of the name after it.
abbrev pub find_duplicate : List (List ℕ) → Option (List ℕ)
find_duplicate [] = None
find_duplicate (name ∷ names) = if shares_path name names then Some name else find_duplicate names
