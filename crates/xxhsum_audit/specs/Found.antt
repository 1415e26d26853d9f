-- The results of lines and names.
use Rattle.std.specs.Prelude.{ℕ, Bool, true, false, List, [], ◌∷◌, map, if◌then◌else◌, flat_map}
use Rattle.std.specs.Ordering.{is_eq, nat_cmp, ordering_then}
use Rattle.std.specs.declared.cmp.Ordering.{Ordering}
use Rattle.xxhsum_audit.specs.declared.verdict.Class.{Class}
use Rattle.xxhsum_audit.specs.declared.verdict.Class.TheVariants as Of
use Rattle.xxhsum_audit.specs.declared.verdict.Verdict.{Verdict}
use Rattle.xxhsum_audit.specs.declared.verdict.Verdict.TheVariants as TakesOrFails
use Rattle.xxhsum_audit.specs.Item.{Item, item_of}
use Rattle.xxhsum_audit.specs.Order.{compare_digests, rank_digests, rank_lines}

-- The result of a line, of a name, or of both. A copy has its original file first.
pub data Found : Type 0 where
  Same : Item → Item → Found
  Changed : Item → Item → Found
  Moved : Item → Item → Found
  Copied : Item → Item → Found
  New : Item → Found
  Missing : Item → Found

abbrev pub found_of : Verdict → Found
found_of (TakesOrFails.Same line name) = Same (item_of line) (item_of name)
found_of (TakesOrFails.Changed line name) = Changed (item_of line) (item_of name)
found_of (TakesOrFails.Moved line name) = Moved (item_of line) (item_of name)
found_of (TakesOrFails.Copied first name) = Copied (item_of first) (item_of name)
found_of (TakesOrFails.New name) = New (item_of name)
found_of (TakesOrFails.Missing line) = Missing (item_of line)

abbrev pub founds_of : List Verdict → List Found
founds_of verdicts = map found_of verdicts

-- The result of a line and of the file with its name.
abbrev pub met : Item → Item → Found
met line name = if is_eq (compare_digests line name) then Same line name else Changed line name

abbrev pub class_of : Found → Class
class_of (Same line name) = Of.Same
class_of (Changed line name) = Of.Changed
class_of (Moved line name) = Of.Moved
class_of (Copied first name) = Of.Copied
class_of (New name) = Of.New
class_of (Missing line) = Of.Missing

abbrev pub is_class : Class → Class → Bool
is_class Of.Same Of.Same = true
is_class Of.Changed Of.Changed = true
is_class Of.Moved Of.Moved = true
is_class Of.Copied Of.Copied = true
is_class Of.New Of.New = true
is_class Of.Missing Of.Missing = true
is_class a b = false

abbrev pub is_of_class : Class → Found → Bool
is_of_class class found = is_class (class_of found) class

-- The item that a result is about, and the item that it is compared with: the line, or the original of a copy.
abbrev pub told : Found → Item
told (Same line name) = name
told (Changed line name) = name
told (Moved line name) = name
told (Copied first name) = name
told (New name) = name
told (Missing line) = line

abbrev pub source_in : Found → Item
source_in (Same line name) = line
source_in (Changed line name) = line
source_in (Moved line name) = line
source_in (Copied first name) = first
source_in (New name) = name
source_in (Missing line) = line

-- The position of a class among the classes.
abbrev pub rank_of_class : Class → ℕ
rank_of_class Of.Same = 0
rank_of_class Of.Changed = 1
rank_of_class Of.Moved = 2
rank_of_class Of.Copied = 3
rank_of_class Of.New = 4
rank_of_class Of.Missing = 5

-- The order of results by the names that they are about, and then by all else.
abbrev pub rank_founds : Found → Found → Ordering
rank_founds a b =
    ordering_then (rank_lines (told a) (told b))
    (ordering_then (nat_cmp (rank_of_class (class_of a)) (rank_of_class (class_of b)))
    (ordering_then (rank_digests (told a) (told b)) (rank_digests (source_in a) (source_in b))))

-- ---- the lines and the names of a result

abbrev pub line_in : Found → List Item
line_in (Same line name) = line ∷ []
line_in (Changed line name) = line ∷ []
line_in (Moved line name) = line ∷ []
line_in (Missing line) = line ∷ []
line_in found = []

abbrev pub name_in : Found → List Item
name_in (Same line name) = name ∷ []
name_in (Changed line name) = name ∷ []
name_in (Moved line name) = name ∷ []
name_in (Copied first name) = name ∷ []
name_in (New name) = name ∷ []
name_in (Missing line) = []

abbrev pub lines_in : List Found → List Item
lines_in found = flat_map line_in found

abbrev pub names_in : List Found → List Item
names_in found = flat_map name_in found
