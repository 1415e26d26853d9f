-- An audit: the results of a list's lines and of the current names.
use Rattle.std.specs.Prelude.{ℕ, ◌≡◌, List, [], ◌∷◌, ◌++◌, Option, Some, None, map, if◌then◌else◌, flat_map, IsPermutation}
use Rattle.std.specs.Ordering.{is_eq}
use Rattle.xxhsum_audit.specs.declared.side.Side.{Side}
use Rattle.xxhsum_audit.specs.declared.side.Side.TheVariants.{Line, Name, Both}
use Rattle.xxhsum_audit.specs.Found.{Copied, Found, Missing, Moved, New, Same, met, rank_founds}
use Rattle.xxhsum_audit.specs.Item.{Item, path_of}
use Rattle.xxhsum_audit.specs.Order.{IsOrder, Rises, compare_digests, compare_lines, rank_digests}
use Rattle.xxhsum_audit.specs.Side.{beside}

-- ---- merged lists

-- The result of a side. `pair` is the result of a line and a name.
abbrev pub as_found : (Item → Item → Found) → Side Item Item → Found
as_found pair (Line line) = Missing line
as_found pair (Name name) = New name
as_found pair (Both line name) = pair line name

-- The results of lines and names, merged by path.
abbrev pub compared : List Item → List Item → List Found
compared lines names = map (as_found met) (beside compare_lines lines names)

-- The results of lines whose names are gone and of new names, merged by digest.
abbrev pub moved : List Item → List Item → List Found
moved removed added = map (as_found Moved) (beside compare_digests removed added)

-- ---- the classes

abbrev pub missing_one : Found → List Item
missing_one (Missing line) = line ∷ []
missing_one found = []

-- The name of a result, if it is new or a copy: no line has it, and no line was moved to it.
abbrev pub new_one : Found → List Item
new_one (New name) = name ∷ []
new_one (Copied first name) = name ∷ []
new_one found = []

abbrev pub same_one : Found → List Item
same_one (Same line name) = name ∷ []
same_one found = []

abbrev pub matched_one : Found → List Found
matched_one (Copied first name) = []
matched_one (New name) = []
matched_one (Missing line) = []
matched_one found = found ∷ []

-- The missing lines, the new or copied names, the unchanged files, and all results except missing, new and copied.
abbrev pub missing_in : List Found → List Item
missing_in found = flat_map missing_one found

abbrev pub new_in : List Found → List Item
new_in found = flat_map new_one found

abbrev pub same_in : List Found → List Item
same_in found = flat_map same_one found

abbrev pub matched_in : List Found → List Found
matched_in found = flat_map matched_one found

-- ---- copies

-- The first of these items with the digest of the name.
abbrev pub original : List Item → Item → Option Item
original [] name = None
original (first ∷ kept) name = if is_eq (compare_digests first name) then Some first else original kept name

abbrev pub copied : Option Item → Item → Found
copied None name = New name
copied (Some first) name = Copied first name

-- The result. A new name becomes a copy of the first unchanged file with its digest, if there is one.
abbrev pub with_copy : List Item → Found → Found
with_copy kept (New name) = copied (original kept name) name
with_copy kept found = found

-- ---- an audit

-- The results `found` are the matched ones, followed by the results of the other lines and names, sorted by digest and
-- merged. A name that is still new becomes a copy if an unchanged file has its digest. These results are sorted by name.
pub record HasMoves (matched : List Found) (removed added : List Item) (found : List Found) : Type 0 where
  pub kept : List Item
  pub removed_ordered : List Item
  pub added_ordered : List Item
  pub kept_in_order : IsOrder rank_digests (same_in matched) kept
  pub removed_in_order : IsOrder rank_digests removed removed_ordered
  pub added_in_order : IsOrder rank_digests added added_ordered
  pub rest : List Found
  pub rest_in_order : IsOrder rank_founds (map (with_copy kept) (moved removed_ordered added_ordered)) rest
  pub is : found ≡ matched ++ rest

-- The lines and the names are sorted by path and merged. No two lines share a path, and no two names do.
pub record IsAudit (lines names : List Item) (found : List Found) : Type 0 where
  pub ordered_lines : List Item
  pub ordered_names : List Item
  pub lines_same : IsPermutation lines ordered_lines
  pub names_same : IsPermutation names ordered_names
  pub lines_rise : Rises compare_lines ordered_lines
  pub names_rise : Rises compare_lines ordered_names
  pub moves : HasMoves (matched_in (compared ordered_lines ordered_names))
      (missing_in (compared ordered_lines ordered_names)) (new_in (compared ordered_lines ordered_names)) found

-- Two of the items have this path.
abbrev pub IsDuplicate : List Item → List ℕ → Type 0
IsDuplicate items path =
    (a b : Item) × (rest : List Item) × IsPermutation items (a ∷ b ∷ rest) × (path_of a ≡ path) × (path_of b ≡ path)
