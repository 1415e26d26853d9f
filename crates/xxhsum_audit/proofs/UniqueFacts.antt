-- Proves that a list has only one sorted order.
use Rattle.xxhsum_audit.proofs.Prelude.{◌≡◌, ℕ, Bool, true, false, List, [], ◌∷◌, refl, sym, ap, subst, ◌∙◌, inl, inr, arith, sum_by, IsPermutation, Ordering, Less, Equal, Greater, then_total, tied_itself, sum_by-IsPermutation}
use Rattle.xxhsum_audit.proofs.Prelude.{Found, IsPermutation-refl, IsPermutation-sym, IsPermutation-trans, rank_founds, sum_by-cons, IsTotalOrder, is_eq, is_lt, ordering_then, IsAmong, Item, Ascends, IsOrder, Rises, compare_lines, rank_digests}
use Rattle.xxhsum_audit.proofs.OrderFacts.{ahead, all_exact, all_total, back, founds_exact, founds_total, less_upto, lines_total, then_equal}

one_if : Bool → ℕ
one_if true = 1
one_if false = 0

module _ {X : Type 0} (R : X → X → Ordering) (total : IsTotalOrder R) (exact : (x y : X) → R x y ≡ Equal → x ≡ y) where
  -- 1 for an item equal to this one in the order, 0 for any other.
  here : X → X → ℕ
  here x z = one_if (is_eq (R x z))

  here_itself : (x : X) → here x x ≡ 1
  unfolding here one_if
  here_itself x = ap (λ o. one_if (is_eq o)) (tied_itself total x)

  here_above : (x z : X) → R x z ≡ Less → here x z ≡ 0
  unfolding here one_if
  here_above x z e = ap (λ o. one_if (is_eq o)) e

  none_here : (x : X) (zs : List X) → ((z : X) → IsAmong zs z → R x z ≡ Less) → sum_by (here x) zs ≡ 0
  none_here x [] all = refl
  none_here x (z ∷ zs) all =
      let first = here_above x z (all z (inl refl)) in
      let rest = none_here x zs (λ y h. all y (inr h)) in
      sum_by-cons (here x) z zs ∙ omega (arith, first, rest)

  -- Lemma: the first element of one sorted list is not less than that of the other.
  not_before : (x y : X) (xs ys : List X) → Ascends R (y ∷ ys)
      → ((f : X → ℕ) → sum_by f (x ∷ xs) ≡ sum_by f (y ∷ ys)) → R x y ≡ Less → ⊥
  not_before x y xs ys up same less =
      let above : (z : X) → IsAmong (y ∷ ys) z → R x z ≡ Less = λ z h.
      elim h [
        | inl e ↦ subst (λ w. R x w ≡ Less) e less
        | inr k ↦ less_upto R total x y z less (up.0 z k)
      ] in
      let none = none_here x (y ∷ ys) above in
      let one = here_itself x in
      let sums = sum_by-cons (here x) x xs in
      let equal = same (here x) in
      omega (arith, none, one, sums, equal)

  first_same : (x y : X) (xs ys : List X) → Ascends R (x ∷ xs) → Ascends R (y ∷ ys)
      → ((f : X → ℕ) → sum_by f (x ∷ xs) ≡ sum_by f (y ∷ ys)) → (o : Ordering) → R x y ≡ o → x ≡ y
  first_same x y xs ys up up' same Less e = absurd (not_before x y xs ys up' same e)
  first_same x y xs ys up up' same Equal e = exact x y e
  first_same x y xs ys up up' same Greater e =
      absurd (not_before y x ys xs up (λ f. sym (same f)) (back R total x y e))

  only_order : (a b : List X) → Ascends R a → Ascends R b → ((f : X → ℕ) → sum_by f a ≡ sum_by f b) → a ≡ b
  only_order [] [] up up' same = refl
  only_order [] (y ∷ ys) up up' same =
      let sums = sum_by-cons (λ (z : X). 1) y ys in
      let equal = same (λ z. 1) in
      absurd (omega (arith, sums, equal))
  only_order (x ∷ xs) [] up up' same =
      let sums = sum_by-cons (λ (z : X). 1) x xs in
      let equal = same (λ z. 1) in
      absurd (omega (arith, sums, equal))
  only_order (x ∷ xs) (y ∷ ys) up up' same =
      let firsts : x ≡ y = first_same x y xs ys up up' same (R x y) refl in
      let rests : xs ≡ ys = only_order xs ys up.1 up'.1 (λ f.
      let left = sum_by-cons f x xs in
      let right = sum_by-cons f y ys in
      let both = same f in
      let values : f x ≡ f y = ap f firsts in
      omega (arith, left, right, both, values)) in
      cc

  ordered_once : (given given' ordered ordered' : List X) → IsPermutation given given' → IsOrder R given ordered
      → IsOrder R given' ordered' → ordered ≡ ordered'
  ordered_once given given' ordered ordered' moved one other =
      let all = IsPermutation-trans ordered given ordered' (IsPermutation-sym given ordered one.0)
      (IsPermutation-trans given given' ordered' moved other.0) in
      only_order ordered ordered' one.1 other.1 (λ f. sym (sum_by-IsPermutation f ordered ordered' all))

-- Lemma: two permutations of a list, sorted by digest, are the same.
pub one_order : (given given' ordered ordered' : List Item) → IsPermutation given given' → IsOrder rank_digests given ordered
    → IsOrder rank_digests given' ordered' → ordered ≡ ordered'
one_order = ordered_once rank_digests all_total all_exact

pub one_order_of_results : (given given' ordered ordered' : List Found) → given ≡ given' → IsOrder rank_founds given ordered
    → IsOrder rank_founds given' ordered' → ordered ≡ ordered'
one_order_of_results given given' ordered ordered' same =
    ordered_once rank_founds founds_total founds_exact given given' ordered ordered' (subst (λ f. IsPermutation given f) same (IsPermutation-refl given))

-- ---- sorted by name, with no two names of one path

abbrev whole : Item → Item → Ordering
whole a b = ordering_then (compare_lines a b) (rank_digests a b)

ascends : (xs : List Item) → Rises compare_lines xs → Ascends whole xs
ascends [] up = tt
ascends (x ∷ xs) up =
    (λ y h. ap (λ o. is_lt (ordering_then o (rank_digests y x))) (ahead compare_lines lines_total x y (up.0 y h)), ascends xs up.1)

pub one_rise : (given given' ordered ordered' : List Item) → IsPermutation given given' → IsPermutation given ordered
    → IsPermutation given' ordered' → Rises compare_lines ordered → Rises compare_lines ordered' → ordered ≡ ordered'
one_rise given given' ordered ordered' moved one other up up' =
    ordered_once whole (then_total lines_total all_total) (λ a b e. all_exact a b (then_equal (compare_lines a b) (rank_digests a b) e).1)
    given given' ordered ordered' moved (one, ascends ordered up) (other, ascends ordered' up')
