-- Lemmas on the elements of lists.
use Rattle.xxhsum_audit.proofs.Prelude.{◌≡◌, ◌⊎◌, ℕ, suc, zero, ◌<◌, List, [], ◌∷◌, ◌++◌, append_assoc, length, get_or, refl, set, swap, sym, subst, inl, inr, arith, Contains, flat_map, IsPermutation, Contains-permutation, IsAmong}
use Rattle.xxhsum_audit.proofs.Prelude.{IsPermutation-append_comm, IsPermutation-append_left, IsPermutation-append_right, IsPermutation-keeps, IsPermutation-refl, IsPermutation-trans}

to_contains : {X : Type 0} (xs : List X) (x : X) → IsAmong xs x → Contains xs x
to_contains [] x h = absurd h
to_contains (y ∷ xs) x (inl e) = (0, omega arith, e)
to_contains (y ∷ xs) x (inr h) =
    let there = to_contains xs x h in
    (suc there.0, omega (arith, there.1), there.2)

from_place : {X : Type 0} (xs : List X) (x : X) (k : ℕ) → k < length xs → get_or xs k x ≡ x → IsAmong xs x
from_place [] x k h e = absurd (omega arith)
from_place (y ∷ xs) x zero h e = inl e
from_place (y ∷ xs) x (suc k) h e = inr (from_place xs x k (omega arith) e)

pub among_permutation : {X : Type 0} (xs ys : List X) (x : X) → IsPermutation xs ys → IsAmong xs x → IsAmong ys x
among_permutation xs ys x moved h =
    let there = Contains-permutation xs ys x moved (to_contains xs x h) in
    from_place ys x there.0 there.1 there.2

pub among_same : {X : Type 0} (xs ys : List X) (x : X) → xs ≡ ys → IsAmong xs x → IsAmong ys x
among_same xs ys x e h = subst (λ l. IsAmong l x) e h

pub among_left : {X : Type 0} (xs ys : List X) (x : X) → IsAmong xs x → IsAmong (xs ++ ys) x
among_left [] ys x h = absurd h
among_left (y ∷ xs) ys x (inl e) = inl e
among_left (y ∷ xs) ys x (inr h) = inr (among_left xs ys x h)

pub among_right : {X : Type 0} (xs ys : List X) (x : X) → IsAmong ys x → IsAmong (xs ++ ys) x
among_right [] ys x h = h
among_right (y ∷ xs) ys x h = inr (among_right xs ys x h)

pub among_either : {X : Type 0} (xs ys : List X) (x : X) → IsAmong (xs ++ ys) x → IsAmong xs x ⊎ IsAmong ys x
among_either [] ys x h = inr h
among_either (y ∷ xs) ys x (inl e) = inl (inl e)
among_either (y ∷ xs) ys x (inr h) =
    elim (among_either xs ys x h) [ inl a ↦ inl (inr a) | inr b ↦ inr b ]

-- Lemma: an element of the result for one element is an element of the joined results for all.
pub among_flat_map : {X A : Type 0} (f : X → List A) (xs : List X) (x : X) (a : A) → IsAmong xs x → IsAmong (f x) a
    → IsAmong (flat_map f xs) a
among_flat_map f [] x a h k = absurd h
among_flat_map f (y ∷ xs) x a (inl e) k = among_left (f y) (flat_map f xs) a (subst (λ z. IsAmong (f z) a) (sym e) k)
among_flat_map f (y ∷ xs) x a (inr h) k = among_right (f y) (flat_map f xs) a (among_flat_map f xs x a h k)

-- Lemma: an element of the joined results is an element of the result for one element.
pub from_flat_map : {X A : Type 0} (f : X → List A) (xs : List X) (a : A) → IsAmong (flat_map f xs) a → (x : X) × IsAmong xs x × IsAmong (f x) a
from_flat_map f [] a h = absurd h
from_flat_map f (y ∷ xs) a h =
    elim (among_either (f y) (flat_map f xs) a h) [
      | inl here ↦ (y, inl refl, here)
      | inr behind ↦ let there = from_flat_map f xs a behind in (there.0, inr there.1, there.2)
    ]

-- ---- the items of results in another order

-- An exchange of two elements leaves the items of a list in another order.
module _ {X A : Type 0} (f : X → List A) where
  abbrev Moves : List X → List X → Type 0
  Moves xs ys = IsPermutation (flat_map f xs) (flat_map f ys)

  turned : (x y : X) (xs : List X) → Moves (x ∷ y ∷ xs) (y ∷ x ∷ xs)
  turned x y xs =
      rw (← append_assoc (f x), ← append_assoc (f y)) (IsPermutation-append_left (flat_map f xs) _ _ (IsPermutation-append_comm (f x) (f y)))

  behind : (x : X) (xs ys : List X) → Moves xs ys → Moves (x ∷ xs) (x ∷ ys)
  behind x xs ys moved = IsPermutation-append_right (f x) _ _ moved

  to_head : (l : List X) (j : ℕ) (x d : X) → j < length l → Moves (x ∷ l) (get_or l j d ∷ set l j x)
  to_head [] j x d h = absurd (omega arith)
  to_head (y ∷ l) zero x d h = turned x y l
  to_head (y ∷ l) (suc j) x d h =
      IsPermutation-trans _ _ _ (turned x y l)
      (IsPermutation-trans _ _ _ (behind y (x ∷ l) (get_or l j d ∷ set l j x) (to_head l j x d (omega arith))) (turned y (get_or l j d) (set l j x)))

  exchanged : (l : List X) (i j : ℕ) (d : X) → i < length l → j < length l → Moves l (set (set l i (get_or l j d)) j (get_or l i d))
  exchanged [] i j d p q = absurd (omega arith)
  exchanged (x ∷ l) zero zero d p q = IsPermutation-refl _
  exchanged (x ∷ l) zero (suc j) d p q = to_head l j x d (omega arith)
  exchanged (x ∷ l) (suc i) zero d p q = to_head l i x d (omega arith)
  exchanged (x ∷ l) (suc i) (suc j) d p q = behind x l (set (set l i (get_or l j d)) j (get_or l i d)) (exchanged l i j d (omega arith) (omega arith))

  swapped : (l : List X) (i j : ℕ) → i < length l → j < length l → Moves l (swap l i j)
  swapped [] i j p q = IsPermutation-refl _
  swapped (x ∷ l) i j p q = exchanged (x ∷ l) i j x p q

  -- Lemma: the items of a permutation are a permutation of the items.
  pub moved_items : (xs ys : List X) → IsPermutation xs ys → Moves xs ys
  moved_items xs = IsPermutation-keeps xs (Moves xs) (IsPermutation-refl _)
      (λ l i j p q h. IsPermutation-trans _ _ _ h (swapped l i j p q))
