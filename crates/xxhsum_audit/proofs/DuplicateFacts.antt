-- Lemmas on names with one path, and on sorted names with different paths.
use Rattle.xxhsum_audit.proofs.Prelude.{◌≡◌, ◌⊎◌, ℕ, ◌≤◌, Bool, true, false, List, [], ◌∷◌, Some, None, map, refl, sym, ap, subst, ◌∙◌, inl, inr, arith, sum_by, IsPermutation, Ordering, Less, Equal, Greater, cond-true, cond-false}
use Rattle.xxhsum_audit.proofs.Prelude.{sum_by-IsPermutation, sum_by-cons, tied_itself, nat_list_cmp_total, exact_bytes, slice_cmp, is_eq, is_lt, nat_cmp, ordering_then, IsDuplicate, IsAmong, Item, path_of, Ascends, Rises, find_duplicate}
use Rattle.xxhsum_audit.proofs.Prelude.{compare_lines, compare_paths, rank_names, shares_path}
use Rattle.std.proofs.lemmas.Option.{none-some}
use Rattle.xxhsum_audit.proofs.OrderFacts.{back, eq_false, paths_total}

-- ---- sorted names of which no two neighbors have one path

lesser : (a b : List ℕ) (o p : Ordering) → compare_paths a b ≡ o → is_eq o ≡ false → is_lt (ordering_then (compare_paths b a) p) ≡ false
    → compare_paths a b ≡ Less
lesser a b Less p e other low = e
lesser a b Equal p e other low = absurd (eq_false Equal other refl)
lesser a b Greater p e other low =
    let less = back compare_paths paths_total a b e in
    let yes : true ≡ is_lt (ordering_then (compare_paths b a) p) = ap (λ o. is_lt (ordering_then o p)) (sym less) in
    let no : true ≡ false = yes ∙ low in
    let none : ⊥ = cc in absurd none

no_duplicate_cases : (x : List ℕ) (xs : List (List ℕ)) (b : Bool) → shares_path x xs ≡ b → find_duplicate (x ∷ xs) ≡ None
    → (b ≡ false) × (find_duplicate xs ≡ None)
no_duplicate_cases x xs true e none =
    absurd (none-some x (sym none ∙ cond-true (shares_path x xs) (Some x) (find_duplicate xs) e))
no_duplicate_cases x xs false e none =
    (refl, sym (cond-false (shares_path x xs) (Some x) (find_duplicate xs) e) ∙ none)

-- Elements with names.
module _ {X : Type 0} (key : X → List ℕ) where
  abbrev by_key : X → X → Ordering
  by_key a b = compare_paths (key a) (key b)

  rises_past : (x : X) (xs : List X) → ((y : X) → IsAmong xs y → is_lt (rank_names (key y) (key x)) ≡ false)
      → shares_path (key x) (map key xs) ≡ false → Rises by_key xs → (y : X) → IsAmong xs y → by_key x y ≡ Less
  rises_past x [] low apart up y h = absurd h
  rises_past x (n ∷ ns) low apart up y h =
      let next = lesser (key x) (key n) (by_key x n) (slice_cmp nat_cmp (key n) (key x)) refl apart (low n (inl refl)) in
      elim h [
        | inl same ↦ subst (λ z. by_key x z ≡ Less) same next
        | inr there ↦ paths_total.trans (key x) (key n) (key y) next (up.0 y there)
      ]

  pub rises : (xs : List X) → Ascends (λ a b. rank_names (key a) (key b)) xs → find_duplicate (map key xs) ≡ None → Rises by_key xs
  rises [] up none = tt
  rises (x ∷ xs) up none =
      let split = no_duplicate_cases (key x) (map key xs) (shares_path (key x) (map key xs)) refl none in
      let rest = rises xs up.1 split.1 in
      (rises_past x xs up.0 split.0 rest, rest)

-- ---- a path that occurs twice

one_if : Bool → ℕ
one_if true = 1
one_if false = 0

-- 1 for an item with this path, 0 for any other.
pub leading : List ℕ → Item → ℕ
leading path item = one_if (is_eq (slice_cmp nat_cmp path (path_of item)))

leads_so : (item : Item) (path : List ℕ) → path_of item ≡ path → leading path item ≡ 1
unfolding leading one_if
leads_so item path e =
    subst (λ n. one_if (is_eq (slice_cmp nat_cmp n (path_of item))) ≡ 1) e
    (ap (λ o. one_if (is_eq o)) (tied_itself nat_list_cmp_total (path_of item)))

leads_above : (x y : Item) → compare_lines x y ≡ Less → leading (path_of x) y ≡ 0
unfolding leading one_if
leads_above x y e = ap (λ o. one_if (is_eq o)) e

none_leads : (x : Item) (ys : List Item) → ((y : Item) → IsAmong ys y → compare_lines x y ≡ Less) → sum_by (leading (path_of x)) ys ≡ 0
none_leads x [] all = refl
none_leads x (y ∷ ys) all =
    let first = leads_above x y (all y (inl refl)) in
    let rest = none_leads x ys (λ z h. all z (inr h)) in
    sum_by-cons (leading (path_of x)) y ys ∙ omega (arith, first, rest)

leads_cases : (path : List ℕ) (x : Item) (o : Ordering) → slice_cmp nat_cmp path (path_of x) ≡ o
    → (leading path x ≡ 0) ⊎ ((leading path x ≡ 1) × (slice_cmp nat_cmp path (path_of x) ≡ Equal))
unfolding leading one_if
leads_cases path x Less e = inl (ap (λ o. one_if (is_eq o)) e)
leads_cases path x Equal e = inr (ap (λ o. one_if (is_eq o)) e, e)
leads_cases path x Greater e = inl (ap (λ o. one_if (is_eq o)) e)

at_most_one : (path : List ℕ) (xs : List Item) → Rises compare_lines xs → sum_by (leading path) xs ≤ 1
at_most_one path [] up = omega arith
at_most_one path (x ∷ xs) up =
    let sums = sum_by-cons (leading path) x xs in
    elim (leads_cases path x (slice_cmp nat_cmp path (path_of x)) refl) [
      | inl none ↦ let rest = at_most_one path xs up.1 in omega (arith, sums, none, rest)
      | inr one ↦
          let same : path ≡ path_of x = exact_bytes path (path_of x) one.1 in
          let rest : sum_by (leading path) xs ≡ 0 =
          subst (λ n. sum_by (leading n) xs ≡ 0) (sym same) (none_leads x xs up.0) in
          omega (arith, sums, one.0, rest)
    ]

twice_counts : (items : List Item) (path : List ℕ) → IsDuplicate items path → 2 ≤ sum_by (leading path) items
twice_counts items path twice =
    let a = twice.0 in
    let b = twice.1 in
    let rest = twice.2 in
    let same = sum_by-IsPermutation (leading path) items (a ∷ b ∷ rest) twice.3 in
    let first = sum_by-cons (leading path) a (b ∷ rest) in
    let second = sum_by-cons (leading path) b rest in
    let one = leads_so a path twice.4 in
    let two = leads_so b path twice.5 in
    omega (arith, same, first, second, one, two)

pub not_twice : (items ordered : List Item) (path : List ℕ) → IsPermutation items ordered → Rises compare_lines ordered
    → IsDuplicate items path → ⊥
not_twice items ordered path moved up twice =
    let two = twice_counts items path twice in
    let same = sum_by-IsPermutation (leading path) items ordered moved in
    let most = at_most_one path ordered up in
    omega (arith, two, same, most)
