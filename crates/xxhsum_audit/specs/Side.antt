-- Two sorted lists, merged: elements of both, and elements of only one.
use Rattle.std.specs.Prelude.{ℕ, ◌≡◌, ◌≤◌, List, [], ◌∷◌, drop, length, map}
use Rattle.std.specs.Borrow.{Bor}
use Rattle.std.specs.declared.cmp.Ordering.{Ordering}
use Rattle.std.specs.declared.cmp.Ordering.TheVariants.{Less, Equal, Greater}
use Rattle.xxhsum_audit.specs.declared.digest.FileDigest.{FileDigest}
use Rattle.xxhsum_audit.specs.declared.side.Side.{Side}
use Rattle.xxhsum_audit.specs.declared.side.Side.TheVariants.{Line, Name, Both}
use Rattle.xxhsum_audit.specs.Item.{Item, item_of, items_of, name_of, texts_of}
use Rattle.xxhsum_audit.specs.Order.{compare_digests, compare_paths}

-- The lesser element, or both if they are equal, followed by the rest.
abbrev pub in_turn : {L N : Type 0} → Ordering → L → N → List (Side L N) → List (Side L N) → List (Side L N) → List (Side L N)
in_turn Less line name past_line past_both past_name = Line line ∷ past_line
in_turn Equal line name past_line past_both past_name = Both line name ∷ past_both
in_turn Greater line name past_line past_both past_name = Name name ∷ past_name

-- A line and the lines after it, merged with names. `behind` merges the lines after it with names.
abbrev pub against : {L N : Type 0} → (L → N → Ordering) → L → (List N → List (Side L N)) → List N → List (Side L N)
against compare line behind [] = Line line ∷ behind []
against compare line behind (name ∷ names) =
    in_turn (compare line name) line name (behind (name ∷ names)) (behind names) (against compare line behind names)

-- Lines and names, both sorted, merged.
unfoldable pub beside : {L N : Type 0} → (L → N → Ordering) → List L → List N → List (Side L N)
beside compare [] names = map Name names
beside compare (line ∷ lines) names = against compare line (beside compare lines) names

-- The order of a line and a name, by path.
abbrev pub compare_to_name : Item → List ℕ → Ordering
compare_to_name line name = compare_paths (name_of line) name

abbrev pub by_path : List Item → List (List ℕ) → List (Side Item (List ℕ))
by_path lines names = beside compare_to_name lines names

-- Lines whose names are gone and new names, merged by digest.
abbrev pub by_digest : List Item → List Item → List (Side Item Item)
by_digest removed added = beside compare_digests removed added

-- The number of lines of a side, and the number of its names.
abbrev pub lines_of : {L N : Type 0} → Side L N → ℕ
lines_of (Line line) = 1
lines_of (Name name) = 0
lines_of (Both line name) = 1

abbrev pub names_of : {L N : Type 0} → Side L N → ℕ
names_of (Line line) = 0
names_of (Name name) = 1
names_of (Both line name) = 1

-- The merged list begins with this side, which takes this many lines and names.
pub record IsFirst {A B S : Type 0} (sides : List A → List B → List S) (lines : List A) (names : List B) (side : S)
    (line_count name_count : ℕ) : Type 0 where
  pub has_line : line_count ≤ length lines
  pub has_name : name_count ≤ length names
  pub is : sides lines names ≡ side ∷ sides (drop line_count lines) (drop name_count names)

-- ---- the sides of the code

abbrev pub path_side : Side FileDigest (Bor (List ℕ)) → Side Item (List ℕ)
path_side (Line line) = Line (item_of line)
path_side (Name name) = Name name.now
path_side (Both line name) = Both (item_of line) name.now

abbrev pub digest_side : Side FileDigest FileDigest → Side Item Item
digest_side (Line line) = Line (item_of line)
digest_side (Name name) = Name (item_of name)
digest_side (Both line name) = Both (item_of line) (item_of name)

abbrev pub path_sides : List FileDigest → List (Bor (List ℕ)) → List (Side Item (List ℕ))
path_sides lines names = by_path (items_of lines) (texts_of names)

abbrev pub digest_sides : List FileDigest → List FileDigest → List (Side Item Item)
digest_sides removed added = by_digest (items_of removed) (items_of added)
