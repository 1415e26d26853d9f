-- Proves the laws of an audit.
use Rattle.xxhsum_audit.proofs.Prelude.{◌≡◌, ℕ, false, List, [], ◌∷◌, ◌++◌, Option, Some, None, map, refl, sym, ap, subst, ◌∙◌, inl, inr, append_assoc, flat_map, IsPermutation, flat_map-append, IsPermutation-append_comm}
use Rattle.xxhsum_audit.proofs.Prelude.{IsPermutation-append_left, IsPermutation-append_right, IsPermutation-refl, IsPermutation-sym, IsPermutation-trans, is_lt, ordering_then, HasMoves, IsAudit, compared, copied, missing_in, missing_one}
use Rattle.xxhsum_audit.proofs.Prelude.{moved, new_in, new_one, original, same_in, same_one, matched_in, matched_one, with_copy, Changed, Copied, Found, Missing, Moved, New, Same, line_in, lines_in, met, name_in, names_in, HasSameDigest}
use Rattle.xxhsum_audit.proofs.Prelude.{IsAmong, Item, LacksPath, path_of, CopiesTheFirst, HasNoDuplicate, IsOneReport, IsRight, LeavesNoCopy, LeavesNoMove, StaysSame, TellsEachLineOnce, TellsEachNameOnce, TellsRight, compare_digests}
use Rattle.xxhsum_audit.proofs.Prelude.{compare_lines, rank_lines}
use Rattle.xxhsum_audit.proofs.AmongFacts.{among_either, among_flat_map, among_permutation, among_same, moved_items}
use Rattle.xxhsum_audit.proofs.CopyFacts.{Ignores, IsOriginal, all_ignore, from_copies, lines_ignore, missing_ignore, names_ignore, new_ignore, original_is}
use Rattle.xxhsum_audit.proofs.DigestFacts.{FitsDigest, FitsName, all_apart, all_fit_digest, all_fit_name, climbs}
use Rattle.xxhsum_audit.proofs.DuplicateFacts.{not_twice}
use Rattle.xxhsum_audit.proofs.FoundFacts.{Covers, covers, met_pair, moved_pair}
use Rattle.xxhsum_audit.proofs.OrderFacts.{digests_tied}
use Rattle.xxhsum_audit.proofs.SideFacts.{IsSide, by_names, side_of_lines, side_of_names}
use Rattle.xxhsum_audit.proofs.UniqueFacts.{one_order, one_order_of_results, one_rise}

covers_names : (ls ns : List Item) → Covers ls ns (compared ls ns)
covers_names = covers met met_pair compare_lines

covers_digests : (ls ns : List Item) → Covers ls ns (moved ls ns)
covers_digests = covers Moved moved_pair compare_digests

-- ---- each line and each name once

interchange : (a b c d : List Item) → IsPermutation ((a ++ b) ++ (c ++ d)) ((a ++ c) ++ (b ++ d))
interchange a b c d =
    let before : a ++ ((b ++ c) ++ d) ≡ (a ++ b) ++ (c ++ d) = ap (λ x. a ++ x) (append_assoc b c d) ∙ sym (append_assoc a b (c ++ d)) in
    let after : a ++ ((c ++ b) ++ d) ≡ (a ++ c) ++ (b ++ d) = ap (λ x. a ++ x) (append_assoc c b d) ∙ sym (append_assoc a c (b ++ d)) in
    subst (λ x. IsPermutation x ((a ++ c) ++ (b ++ d))) before
    (subst (λ x. IsPermutation (a ++ ((b ++ c) ++ d)) x) after
    (IsPermutation-append_right a _ _ (IsPermutation-append_left d (b ++ c) (c ++ b) (IsPermutation-append_comm b c))))

split : (of alone : Found → List Item) → IsSide of alone → (f : List Found)
    → IsPermutation (flat_map of f) (flat_map of (matched_in f) ++ flat_map alone f)
split of alone side [] = IsPermutation-refl []
split of alone side (x ∷ f) =
    let here = flat_map of (matched_one x) in
    let rest = flat_map of (matched_in f) in
    let first = IsPermutation-append_right (of x) (flat_map of f) (rest ++ flat_map alone f) (split of alone side f) in
    let moved = subst (λ y. IsPermutation (y ++ (rest ++ flat_map alone f)) ((here ++ rest) ++ (alone x ++ flat_map alone f)))
    (sym (side x).0) (interchange here (alone x) rest (flat_map alone f)) in
    subst (λ y. IsPermutation (of x ++ flat_map of f) (y ++ (alone x ++ flat_map alone f)))
    (sym (flat_map-append of (matched_one x) (matched_in f)))
    (IsPermutation-trans (of x ++ flat_map of f) (of x ++ (rest ++ flat_map alone f)) ((here ++ rest) ++ (alone x ++ flat_map alone f)) first moved)

-- The second merge, from the results of the first merge to all results.
abbrev MovesOf : List Found → List Found → Type 0
MovesOf first found = HasMoves (matched_in first) (missing_in first) (new_in first) found

-- Lemma: a side keeps its items if its unmatched items are merged again.
keeps : (of alone : Found → List Item) → IsSide of alone → Ignores of → (first found : List Found) (moves : MovesOf first found)
    (items : List Item) → IsPermutation (flat_map alone first) items → flat_map of (moved moves.removed_ordered moves.added_ordered) ≡ items
    → IsPermutation (flat_map of first) (flat_map of found)
keeps of alone side same first found moves items permuted is =
    let matched = flat_map of (matched_in first) in
    let merged = moved moves.removed_ordered moves.added_ordered in
    let copies = map (with_copy moves.kept) merged in
    let whole : flat_map of found ≡ matched ++ flat_map of moves.rest =
    ap (flat_map of) moves.is ∙ flat_map-append of (matched_in first) moves.rest in
    let behind : IsPermutation items (flat_map of moves.rest) =
    subst (λ x. IsPermutation x (flat_map of moves.rest)) (all_ignore of same moves.kept merged ∙ is)
    (moved_items of copies moves.rest moves.rest_in_order.0) in
    subst (λ x. IsPermutation (flat_map of first) x) (sym whole)
    (IsPermutation-trans (flat_map of first) (matched ++ flat_map alone first) (matched ++ flat_map of moves.rest) (split of alone side first)
    (IsPermutation-append_right matched (flat_map alone first) (flat_map of moves.rest)
    (IsPermutation-trans (flat_map alone first) items (flat_map of moves.rest) permuted behind)))

pub tells_each_line_once : TellsEachLineOnce
tells_each_line_once lines names found audit =
    let first = compared audit.ordered_lines audit.ordered_names in
    let all = (covers_names audit.ordered_lines audit.ordered_names).lines in
    let moves = audit.moves in
    IsPermutation-trans lines (lines_in first) (lines_in found) (subst (λ x. IsPermutation lines x) (sym all) audit.lines_same)
    (keeps line_in missing_one side_of_lines lines_ignore first found moves moves.removed_ordered moves.removed_in_order.0
    (covers_digests moves.removed_ordered moves.added_ordered).lines)

pub tells_each_name_once : TellsEachNameOnce
tells_each_name_once lines names found audit =
    let first = compared audit.ordered_lines audit.ordered_names in
    let all = (covers_names audit.ordered_lines audit.ordered_names).names in
    let moves = audit.moves in
    IsPermutation-trans names (names_in first) (names_in found) (subst (λ x. IsPermutation names x) (sym all) audit.names_same)
    (keeps name_in new_one side_of_names names_ignore first found moves moves.added_ordered moves.added_in_order.0
    (covers_digests moves.removed_ordered moves.added_ordered).names)

-- ---- no path twice

pub has_no_duplicate : HasNoDuplicate
has_no_duplicate lines names found path audit = (
  not_twice lines audit.ordered_lines path audit.lines_same audit.lines_rise,
  not_twice names audit.ordered_names path audit.names_same audit.names_rise,
)

-- ---- the classes are correct

abbrev pub IsMatched : Found → Type 0
IsMatched (Same l n) = Unit {0}
IsMatched (Changed l n) = Unit {0}
IsMatched (Moved l n) = Unit {0}
IsMatched (Copied o n) = ⊥
IsMatched (New n) = ⊥
IsMatched (Missing l) = ⊥

matched_is : (f : List Found) (one : Found) → IsAmong (matched_in f) one → IsMatched one × IsAmong f one
matched_is [] one h = absurd h
matched_is (Same l n ∷ f) one (inl e) = (subst IsMatched e tt, inl e)
matched_is (Same l n ∷ f) one (inr h) = let rest = matched_is f one h in (rest.0, inr rest.1)
matched_is (Changed l n ∷ f) one (inl e) = (subst IsMatched e tt, inl e)
matched_is (Changed l n ∷ f) one (inr h) = let rest = matched_is f one h in (rest.0, inr rest.1)
matched_is (Moved l n ∷ f) one (inl e) = (subst IsMatched e tt, inl e)
matched_is (Moved l n ∷ f) one (inr h) = let rest = matched_is f one h in (rest.0, inr rest.1)
matched_is (Copied o n ∷ f) one h = let rest = matched_is f one h in (rest.0, inr rest.1)
matched_is (New n ∷ f) one h = let rest = matched_is f one h in (rest.0, inr rest.1)
matched_is (Missing l ∷ f) one h = let rest = matched_is f one h in (rest.0, inr rest.1)

-- Lemma: an unchanged file has a line.
same_is : (f : List Found) (s : Item) → IsAmong (same_in f) s → (l : Item) × IsAmong f (Same l s)
same_is [] s h = absurd h
same_is (Same l n ∷ f) s (inl e) = (l, inl (ap (Same l) e))
same_is (Same l n ∷ f) s (inr h) = let rest = same_is f s h in (rest.0, inr rest.1)
same_is (Changed l n ∷ f) s h = let rest = same_is f s h in (rest.0, inr rest.1)
same_is (Moved l n ∷ f) s h = let rest = same_is f s h in (rest.0, inr rest.1)
same_is (Copied o n ∷ f) s h = let rest = same_is f s h in (rest.0, inr rest.1)
same_is (New n ∷ f) s h = let rest = same_is f s h in (rest.0, inr rest.1)
same_is (Missing l ∷ f) s h = let rest = same_is f s h in (rest.0, inr rest.1)

right_if_matched : (lines names : List Item) (one : Found) → IsMatched one → FitsName one → IsRight lines names one
right_if_matched lines names (Same l n) matched fits = fits
right_if_matched lines names (Changed l n) matched fits = fits
right_if_matched lines names (Moved l n) matched fits = absurd fits
right_if_matched lines names (Copied o n) matched fits = absurd matched
right_if_matched lines names (New n) matched fits = absurd matched
right_if_matched lines names (Missing l) matched fits = absurd matched

lacks_given : (given ordered : List Item) (path : List ℕ) → IsPermutation given ordered → LacksPath ordered path → LacksPath given path
lacks_given given ordered path same lacks item h = lacks item (among_permutation given ordered item same h)

-- The facts on the lines that are gone, the new names and the unchanged files.
record IsKnown (lines names removed added kept : List Item) : Type 0 where
  pub removed_lacks : (l : Item) → IsAmong removed l → LacksPath names (path_of l)
  pub added_lacks : (n : Item) → IsAmong added n → LacksPath lines (path_of n)
  pub kept_stays : (s : Item) → IsAmong kept s → StaysSame lines names s

line_among : (removed added : List Item) (one : Found) (l : Item) → IsAmong (moved removed added) one → IsAmong (line_in one) l → IsAmong removed l
line_among removed added one l h k =
    among_same (lines_in (moved removed added)) removed l (covers_digests removed added).lines (among_flat_map line_in (moved removed added) one l h k)

name_among : (removed added : List Item) (one : Found) (n : Item) → IsAmong (moved removed added) one → IsAmong (name_in one) n → IsAmong added n
name_among removed added one n h k =
    among_same (names_in (moved removed added)) added n (covers_digests removed added).names (among_flat_map name_in (moved removed added) one n h k)

right_copy : (lines names kept : List Item) (n : Item) → ((s : Item) → IsAmong kept s → StaysSame lines names s)
    → LacksPath lines (path_of n) → (o : Option Item) → IsOriginal kept n o → IsRight lines names (copied o n)
right_copy lines names kept n stays lacks None is = lacks
right_copy lines names kept n stays lacks (Some o) is = (is.1, stays o is.0, lacks)

right_by_digest : (lines names removed added kept : List Item) → IsKnown lines names removed added kept → (one : Found)
    → IsAmong (moved removed added) one → FitsDigest one → IsRight lines names (with_copy kept one)
right_by_digest lines names removed added kept known (Same l n) h fits = absurd fits
right_by_digest lines names removed added kept known (Changed l n) h fits = absurd fits
right_by_digest lines names removed added kept known (Copied o n) h fits = absurd fits
right_by_digest lines names removed added kept known (Moved l n) h fits = (
  fits,
  known.removed_lacks l (line_among removed added (Moved l n) l h (inl refl)),
  known.added_lacks n (name_among removed added (Moved l n) n h (inl refl)),
)
right_by_digest lines names removed added kept known (New n) h fits =
    right_copy lines names kept n known.kept_stays (known.added_lacks n (name_among removed added (New n) n h (inl refl)))
    (original kept n) (original_is kept n)
right_by_digest lines names removed added kept known (Missing l) h fits =
    known.removed_lacks l (line_among removed added (Missing l) l h (inl refl))

-- ---- laws of one audit

module _ (lines names : List Item) (found : List Found) (audit : IsAudit lines names found) where
  abbrev moves : MovesOf (compared audit.ordered_lines audit.ordered_names) found
  moves = audit.moves

  abbrev first : List Found
  first = compared audit.ordered_lines audit.ordered_names

  abbrev rest : List Found
  rest = moved moves.removed_ordered moves.added_ordered

  stays : (s : Item) → IsAmong moves.kept s → StaysSame lines names s
  stays s h =
      let there = same_is (matched_in first) s
      (among_permutation moves.kept (same_in (matched_in first)) s (IsPermutation-sym (same_in (matched_in first)) moves.kept moves.kept_in_order.0) h) in
      let l = there.0 in
      let one = Same l s in
      let here = (matched_is first one there.1).1 in
      let all = covers_names audit.ordered_lines audit.ordered_names in (
        among_permutation audit.ordered_names names s (IsPermutation-sym names audit.ordered_names audit.names_same)
            (among_same (names_in first) audit.ordered_names s all.names (among_flat_map name_in first one s here (inl refl))),
        (
          l,
          among_permutation audit.ordered_lines lines l (IsPermutation-sym lines audit.ordered_lines audit.lines_same)
              (among_same (lines_in first) audit.ordered_lines l all.lines (among_flat_map line_in first one l here (inl refl))),
          all_fit_name audit.ordered_lines audit.ordered_names one here,
        ),
      )

  known : IsKnown lines names moves.removed_ordered moves.added_ordered moves.kept
  known =
      let ls = audit.ordered_lines in
      let ns = audit.ordered_names in
      let sides = by_names ls ns in
      record {
        removed_lacks = λ l k. lacks_given names ns (path_of l) audit.names_same
            (sides.missing audit.lines_rise audit.names_rise l (among_permutation moves.removed_ordered (missing_in first) l
            (IsPermutation-sym (missing_in first) moves.removed_ordered moves.removed_in_order.0) k));
        added_lacks = λ n k. lacks_given lines ls (path_of n) audit.lines_same
            (sides.new audit.lines_rise audit.names_rise n (among_permutation moves.added_ordered (new_in first) n
            (IsPermutation-sym (new_in first) moves.added_ordered moves.added_in_order.0) k));
        kept_stays = stays;
      }

  -- Lemma: a property of the results matched by name and of the results by digest is a property of all results.
  each : (P : Found → Type 0) → ((one : Found) → IsMatched one → IsAmong (matched_in first) one → P one)
      → ((one : Found) → IsAmong rest one → FitsDigest one → P (with_copy moves.kept one)) → (one : Found) → IsAmong found one → P one
  each P by_name by_digest one h =
      elim (among_either (matched_in first) moves.rest one
      (among_same found (matched_in first ++ moves.rest) one moves.is h)) [
        | inl a ↦ by_name one (matched_is first one a).0 a
        | inr b ↦
            let from = from_copies moves.kept rest one
            (among_permutation moves.rest (map (with_copy moves.kept) rest) one
            (IsPermutation-sym (map (with_copy moves.kept) rest) moves.rest moves.rest_in_order.0) b) in
            subst P from.2 (by_digest from.0 from.1 (all_fit_digest moves.removed_ordered moves.added_ordered from.0 from.1))
      ]

  right : (one : Found) → IsAmong found one → IsRight lines names one
  right = each (IsRight lines names)
      (λ one matched h. right_if_matched lines names one matched
      (all_fit_name audit.ordered_lines audit.ordered_names one (matched_is first one h).1))
      (right_by_digest lines names moves.removed_ordered moves.added_ordered moves.kept known)

  -- A result that is not `Same`, or whose file is among the unchanged files `moves.kept`.
  abbrev IsSought : Found → Type 0
  IsSought (Same l s) = IsAmong moves.kept s
  IsSought (Changed l n) = Unit {0}
  IsSought (Moved l n) = Unit {0}
  IsSought (Copied o n) = Unit {0}
  IsSought (New n) = Unit {0}
  IsSought (Missing l) = Unit {0}

  sought_if_matched : (one : Found) → IsMatched one → IsAmong (matched_in first) one → IsSought one
  sought_if_matched (Same l s) matched h =
      among_permutation (same_in (matched_in first)) moves.kept s moves.kept_in_order.0
      (among_flat_map same_one (matched_in first) (Same l s) s h (inl refl))
  sought_if_matched (Changed l n) matched h = tt
  sought_if_matched (Moved l n) matched h = tt
  sought_if_matched (Copied o n) matched h = absurd matched
  sought_if_matched (New n) matched h = absurd matched
  sought_if_matched (Missing l) matched h = absurd matched

  sought_copy : (n : Item) (o : Option Item) → IsSought (copied o n)
  sought_copy n None = tt
  sought_copy n (Some o) = tt

  sought_by_digest : (one : Found) → IsAmong rest one → FitsDigest one → IsSought (with_copy moves.kept one)
  sought_by_digest (Same l n) h fits = absurd fits
  sought_by_digest (Changed l n) h fits = absurd fits
  sought_by_digest (Moved l n) h fits = tt
  sought_by_digest (Copied o n) h fits = absurd fits
  sought_by_digest (New n) h fits = sought_copy n (original moves.kept n)
  sought_by_digest (Missing l) h fits = tt

  sought : (one : Found) → IsAmong found one → IsSought one
  sought = each IsSought sought_if_matched sought_by_digest

  -- A result that agrees with the search for its original in `moves.kept`.
  abbrev SaysOriginal : Found → Type 0
  SaysOriginal (Same l n) = Unit {0}
  SaysOriginal (Changed l n) = Unit {0}
  SaysOriginal (Moved l n) = Unit {0}
  SaysOriginal (Copied o n) = IsOriginal moves.kept n (Some o)
  SaysOriginal (New n) = IsOriginal moves.kept n None
  SaysOriginal (Missing l) = Unit {0}

  says_if_matched : (one : Found) → IsMatched one → IsAmong (matched_in first) one → SaysOriginal one
  says_if_matched (Same l n) matched h = tt
  says_if_matched (Changed l n) matched h = tt
  says_if_matched (Moved l n) matched h = tt
  says_if_matched (Copied o n) matched h = absurd matched
  says_if_matched (New n) matched h = absurd matched
  says_if_matched (Missing l) matched h = absurd matched

  says_copy : (n : Item) (o : Option Item) → IsOriginal moves.kept n o → SaysOriginal (copied o n)
  says_copy n None is = is
  says_copy n (Some o) is = is

  says_by_digest : (one : Found) → IsAmong rest one → FitsDigest one → SaysOriginal (with_copy moves.kept one)
  says_by_digest (Same l n) h fits = absurd fits
  says_by_digest (Changed l n) h fits = absurd fits
  says_by_digest (Moved l n) h fits = tt
  says_by_digest (Copied o n) h fits = absurd fits
  says_by_digest (New n) h fits = says_copy n (original moves.kept n) (original_is moves.kept n)
  says_by_digest (Missing l) h fits = tt

  says : (one : Found) → IsAmong found one → SaysOriginal one
  says = each SaysOriginal says_if_matched says_by_digest

  no_copy : (line kept name : Item) → IsAmong found (Same line kept) → IsAmong found (New name) → HasSameDigest kept name → ⊥
  no_copy line kept name h k same = says (New name) k kept (sought (Same line kept) h) same

  the_first : (line kept original name : Item) → IsAmong found (Same line kept) → IsAmong found (Copied original name)
      → HasSameDigest kept name → is_lt (rank_lines kept original) ≡ false
  the_first line kept original name h k same =
      let is = says (Copied original name) k in
      let tied : HasSameDigest kept original = (same.0 ∙ sym is.1.0, same.1 ∙ sym is.1.1) in
      sym (ap (λ o. is_lt (ordering_then o (rank_lines kept original))) (digests_tied kept original tied))
      ∙ is.2 moves.kept_in_order.1 kept (sought (Same line kept) h) same

  -- ---- no partner is left

  none_alone : (of alone : Found → List Item) → IsSide of alone → (f : List Found) → flat_map alone (matched_in f) ≡ []
  none_alone of alone side [] = refl
  none_alone of alone side (x ∷ f) =
      flat_map-append alone (matched_one x) (matched_in f) ∙ ap (λ y. y ++ flat_map alone (matched_in f)) (side x).1 ∙ none_alone of alone side f

  -- Lemma: the unmatched items are among those of the second merge.
  rest_alone : (of alone : Found → List Item) → IsSide of alone → Ignores alone → (item : Item) → IsAmong (flat_map alone found) item
      → IsAmong (flat_map alone rest) item
  rest_alone of alone side same item h =
      let copies = map (with_copy moves.kept) rest in
      let whole : flat_map alone found ≡ flat_map alone moves.rest =
      ap (flat_map alone) moves.is ∙ flat_map-append alone (matched_in first) moves.rest
      ∙ ap (λ x. x ++ flat_map alone moves.rest) (none_alone of alone side first) in
      among_same (flat_map alone copies) (flat_map alone rest) item (all_ignore alone same moves.kept rest)
      (among_permutation (flat_map alone moves.rest) (flat_map alone copies) item
      (IsPermutation-sym (flat_map alone copies) (flat_map alone moves.rest) (moved_items alone copies moves.rest moves.rest_in_order.0))
      (among_same (flat_map alone found) (flat_map alone moves.rest) item whole h))

  no_move : (line name : Item) → IsAmong (missing_in found) line → IsAmong (new_in found) name → HasSameDigest line name → ⊥
  no_move line name h k same =
      all_apart moves.removed_ordered moves.added_ordered (climbs moves.removed_ordered moves.removed_in_order.1)
      (climbs moves.added_ordered moves.added_in_order.1) line name
      (rest_alone line_in missing_one side_of_lines missing_ignore line h)
      (rest_alone name_in new_one side_of_names new_ignore name k) same

pub tells_right : TellsRight
tells_right lines names found audit one h = right lines names found audit one h

pub leaves_no_move : LeavesNoMove
leaves_no_move lines names found audit line first name h same =
    let missing = among_flat_map missing_one found (Missing line) line h (inl refl) in (
      λ k. no_move lines names found audit line name missing (among_flat_map new_one found (New name) name k (inl refl)) same,
      λ k. no_move lines names found audit line name missing (among_flat_map new_one found (Copied first name) name k (inl refl)) same,
    )

pub leaves_no_copy : LeavesNoCopy
leaves_no_copy lines names found audit line kept name h k same = no_copy lines names found audit line kept name h k same

pub copies_the_first : CopiesTheFirst
copies_the_first lines names found audit line kept original name h k same =
    the_first lines names found audit line kept original name h k same

-- ---- one report

same_order : (given given' : List Item) → given ≡ given' → IsPermutation given given'
same_order given given' same = subst (λ f. IsPermutation given f) same (IsPermutation-refl given)

same_moves : (matched matched' : List Found) (removed removed' added added' : List Item) (found found' : List Found)
    → HasMoves matched removed added found → HasMoves matched' removed' added' found'
    → matched ≡ matched' → removed ≡ removed' → added ≡ added' → found ≡ found'
same_moves matched matched' removed removed' added added' found found' moves moves' one two three =
    let kept : moves.kept ≡ moves'.kept = one_order (same_in matched) (same_in matched') moves.kept moves'.kept
    (same_order _ _ (ap same_in one)) moves.kept_in_order moves'.kept_in_order in
    let went : moves.removed_ordered ≡ moves'.removed_ordered = one_order removed removed' moves.removed_ordered moves'.removed_ordered
    (same_order _ _ two) moves.removed_in_order moves'.removed_in_order in
    let came : moves.added_ordered ≡ moves'.added_ordered = one_order added added' moves.added_ordered moves'.added_ordered
    (same_order _ _ three) moves.added_in_order moves'.added_in_order in
    let copies : map (with_copy moves.kept) (moved moves.removed_ordered moves.added_ordered)
    ≡ map (with_copy moves'.kept) (moved moves'.removed_ordered moves'.added_ordered) = cc in
    let rest : moves.rest ≡ moves'.rest = one_order_of_results _ _ moves.rest moves'.rest copies moves.rest_in_order moves'.rest_in_order in
    let is = moves.is in
    let is' = moves'.is in
    cc

pub is_one_report : IsOneReport
is_one_report lines lines' names names' found found' audit audit' moved moved' =
    let ls = one_rise lines lines' audit.ordered_lines audit'.ordered_lines moved audit.lines_same audit'.lines_same
    audit.lines_rise audit'.lines_rise in
    let ns = one_rise names names' audit.ordered_names audit'.ordered_names moved' audit.names_same audit'.names_same
    audit.names_rise audit'.names_rise in
    let first : compared audit.ordered_lines audit.ordered_names ≡ compared audit'.ordered_lines audit'.ordered_names =
    ap (λ l. compared l audit.ordered_names) ls ∙ ap (λ n. compared audit'.ordered_lines n) ns in
    same_moves _ _ _ _ _ _ found found' audit.moves audit'.moves (ap matched_in first) (ap missing_in first) (ap new_in first)
