-- Lemmas on copies of unchanged files.
use Rattle.xxhsum_audit.proofs.Prelude.{◌≡◌, Bool, true, false, List, [], ◌∷◌, ◌++◌, Option, Some, None, map, refl, sym, ap, subst, ◌∙◌, inl, inr, flat_map, Ordering, Less, Equal, Greater, cond-true, cond-false, alike_right, tied_itself}
use Rattle.xxhsum_audit.proofs.Prelude.{is_eq, is_lt, ordering_reverse, copied, missing_one, new_one, original, with_copy, Changed, Copied, Found, Missing, Moved, New, Same, line_in, name_in, HasSameDigest, IsAmong, Item, Ascends}
use Rattle.xxhsum_audit.proofs.Prelude.{compare_digests, rank_digests}
use Rattle.xxhsum_audit.proofs.OrderFacts.{all_total, digests_exact, digests_tied, digests_total, eq_true}

-- ---- results that have the same items with and without copies

copied_as : {T : Type 0} (of : Found → T) (name : Item) → ((first : Item) → of (Copied first name) ≡ of (New name))
    → (found : Option Item) → of (copied found name) ≡ of (New name)
copied_as of name same None = refl
copied_as of name same (Some first) = same first

-- A function of a result that has the same value with and without copies.
abbrev pub Ignores : (Found → List Item) → Type 0
Ignores of = (kept : List Item) (one : Found) → of (with_copy kept one) ≡ of one

ignores : (of : Found → List Item) → ((first name : Item) → of (Copied first name) ≡ of (New name)) → Ignores of
ignores of same kept (Same l n) = refl
ignores of same kept (Changed l n) = refl
ignores of same kept (Moved l n) = refl
ignores of same kept (Copied o n) = refl
ignores of same kept (New n) = copied_as of n (λ first. same first n) (original kept n)
ignores of same kept (Missing l) = refl

pub lines_ignore : Ignores line_in
lines_ignore = ignores line_in (λ first name. refl)

pub names_ignore : Ignores name_in
names_ignore = ignores name_in (λ first name. refl)

pub missing_ignore : Ignores missing_one
missing_ignore = ignores missing_one (λ first name. refl)

pub new_ignore : Ignores new_one
new_ignore = ignores new_one (λ first name. refl)

pub all_ignore : (of : Found → List Item) → Ignores of → (kept : List Item) (f : List Found)
    → flat_map of (map (with_copy kept) f) ≡ flat_map of f
all_ignore of same kept [] = refl
all_ignore of same kept (x ∷ f) =
    ap (λ y. y ++ flat_map of (map (with_copy kept) f)) (same kept x) ∙ ap (λ y. of x ++ y) (all_ignore of same kept f)

pub from_copies : (kept : List Item) (f : List Found) (one : Found) → IsAmong (map (with_copy kept) f) one
    → (x : Found) × IsAmong f x × (with_copy kept x ≡ one)
from_copies kept [] one h = absurd h
from_copies kept (x ∷ f) one (inl e) = (x, inl refl, e)
from_copies kept (x ∷ f) one (inr h) = let there = from_copies kept f one h in (there.0, inr there.1, there.2)

-- ---- the original of a copy

original_cases : (P : Option Item → Type 0) (x : Item) (xs : List Item) (n : Item) (b : Bool) → is_eq (compare_digests x n) ≡ b
    → (is_eq (compare_digests x n) ≡ true → P (Some x)) → (is_eq (compare_digests x n) ≡ false → P (original xs n))
    → P (original (x ∷ xs) n)
original_cases P x xs n true e here behind =
    subst P (sym (cond-true (is_eq (compare_digests x n)) (Some x) (original xs n) e)) (here e)
original_cases P x xs n false e here behind =
    subst P (sym (cond-false (is_eq (compare_digests x n)) (Some x) (original xs n) e)) (behind e)

-- The result of a search: the first item with the digest, or none if no item has it.
abbrev pub IsOriginal : List Item → Item → Option Item → Type 0
IsOriginal xs n (Some o) =
    IsAmong xs o × HasSameDigest o n
    × (Ascends rank_digests xs → (x : Item) → IsAmong xs x → HasSameDigest x n → is_lt (rank_digests x o) ≡ false)
IsOriginal xs n None = (x : Item) → IsAmong xs x → HasSameDigest x n → ⊥

not_here : (x n : Item) → is_eq (compare_digests x n) ≡ false → HasSameDigest x n → ⊥
not_here x n e same =
    let tied = ap is_eq (digests_tied x n same) in let no : true ≡ false = sym tied ∙ e in let none : ⊥ = cc in none

more_original : (x : Item) (xs : List Item) (n : Item) → is_eq (compare_digests x n) ≡ false → (o : Option Item) → IsOriginal xs n o
    → IsOriginal (x ∷ xs) n o
more_original x xs n e None none = λ y h same.
    elim h [
      | inl this ↦ not_here x n e (subst (λ z. HasSameDigest z n) (sym this) same)
      | inr there ↦ none y there same
    ]
more_original x xs n e (Some o) is = (
  inr is.0,
  is.1,
  λ up y h same.
      elim h [
        | inl this ↦ absurd (not_here x n e (subst (λ z. HasSameDigest z n) (sym this) same))
        | inr there ↦ is.2 up.1 y there same
      ],
)

never_before : (x : Item) → is_lt (rank_digests x x) ≡ false
never_before x = ap is_lt (tied_itself all_total x)

pub original_is : (xs : List Item) (n : Item) → IsOriginal xs n (original xs n)
original_is [] n = λ x h same. absurd h
original_is (x ∷ xs) n =
    original_cases (IsOriginal (x ∷ xs) n) x xs n (is_eq (compare_digests x n)) refl
    (λ e. (
      inl refl,
      digests_exact x n (eq_true (compare_digests x n) e),
      λ up y h same.
          elim h [
            | inl this ↦ subst (λ z. is_lt (rank_digests z x) ≡ false) this (never_before x)
            | inr there ↦ up.0 y there
          ],
    ))
    (λ e. more_original x xs n e (original xs n) (original_is xs n))

-- ---- the original by a search

original-none : (xs : List Item) (n : Item) → ((x : Item) → IsAmong xs x → is_eq (compare_digests x n) ≡ false) → original xs n ≡ None
original-none [] n none = refl
original-none (x ∷ xs) n none =
    original_cases (λ o. o ≡ None) x xs n (is_eq (compare_digests x n)) refl
    (λ e. let no = none x (inl refl) in let never : true ≡ false = sym e ∙ no in let stop : ⊥ = cc in absurd stop)
    (λ e. original-none xs n (λ y h. none y (inr h)))

pub original-passed : (x : Item) (xs : List Item) (n : Item) → compare_digests x n ≡ Less → original (x ∷ xs) n ≡ original xs n
original-passed x xs n less = cond-false (is_eq (compare_digests x n)) (Some x) (original xs n) (ap is_eq less)

pub original-here : (x : Item) (xs : List Item) (n : Item) → compare_digests x n ≡ Equal → original (x ∷ xs) n ≡ Some x
original-here x xs n e = cond-true (is_eq (compare_digests x n)) (Some x) (original xs n) (ap is_eq e)

greater_stays : (x y n : Item) → compare_digests x n ≡ Greater → is_lt (compare_digests y x) ≡ false → compare_digests y n ≡ Equal → ⊥
greater_stays x y n above low equal =
    let back : compare_digests x y ≡ Greater = alike_right digests_total y n x equal ∙ above in
    let less : compare_digests y x ≡ Less = digests_total.antisymm y x ∙ ap ordering_reverse back in
    let yes : true ≡ false = sym (ap is_lt less) ∙ low in
    let no : ⊥ = cc in no

not_equal : (o : Ordering) → (o ≡ Equal → ⊥) → is_eq o ≡ false
not_equal Less other = refl
not_equal Equal other = absurd (other refl)
not_equal Greater other = refl

-- Lemma: no item has the digest if the first of the ascending digests is greater.
pub original-above : (x : Item) (xs : List Item) (n : Item) → Ascends compare_digests (x ∷ xs) → compare_digests x n ≡ Greater
    → original (x ∷ xs) n ≡ None
original-above x xs n up above =
    original-none (x ∷ xs) n (λ y h.
    elim h [
      | inl this ↦ subst (λ z. is_eq (compare_digests z n) ≡ false) this (ap is_eq above)
      | inr there ↦ not_equal (compare_digests y n) (greater_stays x y n above (up.0 y there))
    ])
