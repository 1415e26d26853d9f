-- Proves that a path occurs only once in a walk.
use Rattle.std.proofs.Common.{◌≡◌, ◌≢◌, ◌⊎◌, ℕ, ◌<◌, ◌-◌, ◌&&◌, true, false, List, [], ◌∷◌, ◌++◌, append-nil, append_assoc, codes, drop, length, map, nat_eq, refl, sym, ap, subst, inl, inr, arith, ◌∙◌, IsPermutation}
use Rattle.xxhsum_app.proofs.Prelude.{FindsOnce, HoldsNames, IsAmong, IsOnce, Lacks, among_either, among_permutation, cond-false, ends_with, first_same, lacks_not, lacks_right, nat_tests, pointwise}
use Rattle.std.proofs.lemmas.List.{append_cancel_left, drop_at, length_push}
use Rattle.std.proofs.lemmas.List.Sorted.{IsPermutation-cons, IsPermutation-middle, IsPermutation-refl, IsPermutation-sym, IsPermutation-trans}
use Rattle.xxhsum_app.proofs.VisitFacts.{from-places, leads-here}
use Rattle.xxhsum_app.specs.Walk.{Closed, IsSeen, Leaf, Lost, Opened, Passed, Place, Seen, Tree, Visits, below, below_of, file_of, files_in, given, with_slash}

-- ---- a name without a slash after a folder

last-of : (x : ℕ) (xs : List ℕ) → (init : List ℕ) × (c : ℕ) × (x ∷ xs ≡ init ++ c ∷ [])
last-of x [] = ([], x, refl)
last-of x (y ∷ ys) = let rest = last-of y ys in (x ∷ rest.0, rest.1, ap (λ l. x ∷ l) rest.2)

no-slash-last : (front : List ℕ) (c : ℕ) → c ≢ 47 → ends_with nat_eq (front ++ c ∷ []) (codes "/") ≡ false
no-slash-last front c other =
    let long = length_push front c in
    let last : drop (length (front ++ c ∷ []) - 1) (front ++ c ∷ []) ≡ c ∷ [] = drop_at front (c ∷ []) _ (omega (arith, long)) in
    let test : nat_eq 47 c ≡ false = grind (arith, nat_tests, other) in
    ap (λ l. pointwise nat_eq (47 ∷ []) l) last ∙ ap (λ b. b && true) test

slash-behind : (folder name : List ℕ) → 0 < length name → Lacks 47 name → with_slash (folder ++ name) ≡ (folder ++ name) ++ 47 ∷ []
slash-behind folder [] some lacks = absurd (omega (arith, some))
slash-behind folder (x ∷ xs) some lacks =
    let last = last-of x xs in
    let other = (lacks_right 47 last.0 (last.1 ∷ []) (subst (Lacks 47) last.2 lacks)).0 in
    let whole : (folder ++ last.0) ++ last.1 ∷ [] ≡ folder ++ x ∷ xs =
    append_assoc folder last.0 (last.1 ∷ []) ∙ ap (λ l. folder ++ l) (sym last.2) in
    let test : ends_with nat_eq (folder ++ x ∷ xs) (codes "/") ≡ false =
    subst (λ l. ends_with nat_eq l (codes "/") ≡ false) whole (no-slash-last (folder ++ last.0) last.1 other) in
    cond-false (ends_with nat_eq (folder ++ x ∷ xs) (codes "/")) (folder ++ x ∷ xs) ((folder ++ x ∷ xs) ++ 47 ∷ []) test

-- ---- paths at or below a name

abbrev Under : List ℕ → List ℕ → Type 0
Under base path = (path ≡ base) ⊎ ((rest : List ℕ) × (path ≡ with_slash base ++ rest))

abbrev IsTail : List ℕ → Type 0
IsTail tail = (tail ≡ []) ⊎ ((rest : List ℕ) × (tail ≡ 47 ∷ rest))

under-named : (folder name path : List ℕ) → 0 < length name → Lacks 47 name → Under (folder ++ name) path
    → (tail : List ℕ) × IsTail tail × (path ≡ folder ++ (name ++ tail))
under-named folder name path some lacks (inl e) =
    ([], inl refl, e ∙ ap (λ l. folder ++ l) (sym (append-nil name)))
under-named folder name path some lacks (inr (rest, e)) = (
  47 ∷ rest,
  inr (rest, refl),
  e ∙ ap (λ l. l ++ rest) (slash-behind folder name some lacks) ∙ append_assoc (folder ++ name) (47 ∷ []) rest
      ∙ append_assoc folder name (47 ∷ rest),
)

-- Lemma: a path at or below a name in a folder is below the folder.
under-folder : (base name path : List ℕ) → 0 < length name → Lacks 47 name → Under (with_slash base ++ name) path → Under base path
under-folder base name path some lacks h =
    let there = under-named (with_slash base) name path some lacks h in
    inr (name ++ there.0, there.2)

one-name : (a b s t : List ℕ) → IsTail s → IsTail t → Lacks 47 a → Lacks 47 b → a ++ s ≡ b ++ t → a ≡ b
one-name a b s t (inl e) (inl e') lacks lacks' same =
    sym (append-nil a) ∙ ap (λ l. a ++ l) (sym e) ∙ same ∙ ap (λ l. b ++ l) e' ∙ append-nil b
one-name a b s t (inl e) (inr (rest, e')) lacks lacks' same =
    let whole : a ≡ b ++ 47 ∷ rest = sym (append-nil a) ∙ ap (λ l. a ++ l) (sym e) ∙ same ∙ ap (λ l. b ++ l) e' in
    absurd (lacks_not 47 b rest (subst (Lacks 47) whole lacks))
one-name a b s t (inr (rest, e)) (inl e') lacks lacks' same =
    let whole : b ≡ a ++ 47 ∷ rest = sym (append-nil b) ∙ ap (λ l. b ++ l) (sym e') ∙ sym same ∙ ap (λ l. a ++ l) e in
    absurd (lacks_not 47 a rest (subst (Lacks 47) whole lacks'))
one-name a b s t (inr (rest, e)) (inr (rest', e')) lacks lacks' same =
    (first_same 47 a rest b rest' (ap (λ l. a ++ l) (sym e) ∙ same ∙ ap (λ l. b ++ l) e') lacks lacks').0

-- ---- places without a common path

abbrev Apart : List Place → Type 0
Apart [] = Unit {0}
Apart (p ∷ ps) = ((q : Place) → IsAmong ps q → (path : List ℕ) → Under p.0 path → Under q.0 path → ⊥) × Apart ps

apart-both : (ps qs : List Place) → Apart ps → Apart qs
    → ((p q : Place) → IsAmong ps p → IsAmong qs q → (path : List ℕ) → Under p.0 path → Under q.0 path → ⊥) → Apart (ps ++ qs)
apart-both [] qs up up' cross = up'
apart-both (p ∷ ps) qs up up' cross = (
  λ q h path under under'.
      elim (among_either ps qs q h) [
        | inl here ↦ up.0 q here path under under'
        | inr there ↦ cross p q (inl refl) there path under under'
      ],
  apart-both ps qs up.1 up' (λ x q h k path under under'. cross x q (inr h) k path under under'),
)

-- Lemma: a permutation moves an element of a list to its front.
to-front : (xs : List (List ℕ)) (x : List ℕ) → IsAmong xs x → (rest : List (List ℕ)) × IsPermutation xs (x ∷ rest)
to-front [] x h = absurd h
to-front (y ∷ xs) x (inl e) = (xs, subst (λ z. IsPermutation (y ∷ xs) (z ∷ xs)) e (IsPermutation-refl (y ∷ xs)))
to-front (y ∷ xs) x (inr h) =
    let there = to-front xs x h in (
      y ∷ there.0,
      IsPermutation-trans (y ∷ xs) (y ∷ x ∷ there.0) (x ∷ y ∷ there.0) (IsPermutation-cons y xs (x ∷ there.0) there.1)
          (IsPermutation-sym (x ∷ y ∷ there.0) (y ∷ x ∷ there.0) (IsPermutation-middle (x ∷ []) y there.0)),
    )

abbrev IsPlain : List ℕ → Type 0
IsPlain name = (0 < length name) × Lacks 47 name

names-apart : (folder : List ℕ) (names : List (List ℕ)) → ((name : List ℕ) → IsAmong names name → IsPlain name)
    → ((name : List ℕ) (rest : List (List ℕ)) → IsPermutation names (name ∷ name ∷ rest) → ⊥) → Apart (map (below folder false) names)
names-apart folder [] plain once = tt
names-apart folder (n ∷ names) plain once = (
  λ q h path under under'.
      let there = from-places (below folder false) names q h in
      let m = there.0 in
      let is = plain n (inl refl) in
      let is' = plain m (inr there.1) in
      let one = under-named folder n path is.0 is.1 under in
      let other = under-named folder m path is'.0 is'.1 (subst (λ place. Under place.0 path) (sym there.2) under') in
      let same = one-name n m one.0 other.0 one.1 other.1 is.1 is'.1 (append_cancel_left folder _ _ (sym one.2 ∙ other.2)) in
      let front = to-front names n (subst (λ x. IsAmong names x) (sym same) there.1) in
      once n front.0 (IsPermutation-cons n names (n ∷ front.0) front.1),
  names-apart folder names (λ name h. plain name (inr h))
      (λ name rest moved. once name (n ∷ rest) (IsPermutation-trans (n ∷ names) (n ∷ name ∷ name ∷ rest) (name ∷ name ∷ n ∷ rest)
      (IsPermutation-cons n names (name ∷ name ∷ rest) moved)
      (IsPermutation-sym (name ∷ name ∷ n ∷ rest) (n ∷ name ∷ name ∷ rest) (IsPermutation-middle (name ∷ name ∷ []) n rest)))),
)

-- ---- a walk

module _ (tree : Tree) (holds : HoldsNames tree) where
  below-apart : (place : Place) (seen : Seen) → IsSeen tree place seen → Apart (below_of seen)
  below-apart place (Opened folder ordered) sees =
      let found = sees.1.1 in
      let moved = found.2.0 in
      names-apart (with_slash folder) ordered
      (λ name h. holds.plain (with_slash place.0) found.0 name found.1 (among_permutation ordered found.0 name (IsPermutation-sym found.0 ordered moved) h))
      (λ name rest twice. holds.once (with_slash place.0) found.0 name rest found.1 (IsPermutation-trans found.0 ordered (name ∷ name ∷ rest) moved twice))
  below-apart place seen sees = tt

  below-under : (place : Place) (seen : Seen) → IsSeen tree place seen → (q : Place) → IsAmong (below_of seen) q
      → (path : List ℕ) → Under q.0 path → Under place.0 path
  below-under place (Opened folder ordered) sees q h path under =
      let found = sees.1.1 in
      let there = from-places (below (with_slash folder) false) ordered q h in
      let plain = holds.plain (with_slash place.0) found.0 there.0 found.1
      (among_permutation ordered found.0 there.0 (IsPermutation-sym found.0 ordered found.2.0) there.1) in
      subst (λ f. Under f path) sees.1.0
      (under-folder folder there.0 path plain.0 plain.1 (subst (λ p. Under p.0 path) (sym there.2) under))
  below-under place seen sees q h path under = absurd h

  next-apart : (place : Place) (places : List Place) (seen : Seen) → IsSeen tree place seen → Apart (place ∷ places)
      → Apart (below_of seen ++ places)
  next-apart place places seen sees up =
      apart-both (below_of seen) places (below-apart place seen sees) up.1
      (λ p q h k path under under'. up.0 q k path (below-under place seen sees p h path under) under')

  -- Lemma: each file of a walk is at or below one of its places.
  lies-under : (trace : List Seen) (places left : List Place) (file : List ℕ) → Visits tree places trace left
      → IsAmong (files_in trace) file → (place : Place) × IsAmong places place × Under place.0 file
  lies-under [] places left file visits h = absurd h
  lies-under (seen ∷ trace) [] left file visits h = absurd visits
  lies-under (seen ∷ trace) (p ∷ places) left file visits h =
      elim (among_either (file_of seen) (files_in trace) file h) [
        | inl here ↦ (p, inl refl, inl (leads-here tree p seen file visits.0 here).0)
        | inr there ↦
            let found = lies-under trace (below_of seen ++ places) left file visits.1 there in
            elim (among_either (below_of seen) places found.0 found.1) [
              | inl inside ↦ (p, inl refl, below-under p seen visits.0 found.0 inside file found.2)
              | inr beside ↦ (found.0, inr beside, found.2)
            ]
      ]

  once : (trace : List Seen) (places left : List Place) → Visits tree places trace left → Apart places
      → IsOnce (files_in trace)
  once [] places left visits up = tt
  once (seen ∷ trace) [] left visits up = absurd visits
  once (Leaf name ∷ trace) (p ∷ places) left visits up = (
    λ h.
        let found = lies-under trace places left name visits.1 h in
        up.0 found.0 found.1 name (inl visits.0.0) found.2,
    once trace places left visits.1 up.1,
  )
  once (Opened folder names ∷ trace) (p ∷ places) left visits up =
      once trace (below_of (Opened folder names) ++ places) left visits.1
      (next-apart p places (Opened folder names) visits.0 up)
  once (seen ∷ trace) (p ∷ places) left visits up = once trace places left visits.1 up.1

pub finds-once : (tree : Tree) → FindsOnce tree
finds-once tree name trace left holds visits =
    once tree holds trace (given name ∷ []) left visits (λ q h. absurd h, tt)
