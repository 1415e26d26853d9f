-- Induction over a merge of lines and names, and lemmas on its first element.
use Rattle.xxhsum_audit.proofs.Prelude.{◌≡◌, ℕ, List, [], ◌∷◌, map, length, refl, sym, ap, subst, ◌∙◌, arith, Ordering, Less, Equal, Greater, Side, IsFirst, against, beside, in_turn}
use Rattle.xxhsum_audit.specs.declared.side.Side.TheVariants.{Line, Name, Both}

module _ {L N : Type 0} (compare : L → N → Ordering) (P : List L → List N → List (Side L N) → Type 0)
    (none : P [] [] [])
    (past_line : (l : L) (ls : List L) (s : List (Side L N)) → P ls [] s → P (l ∷ ls) [] (Line l ∷ s))
    (past_name : (n : N) (ns : List N) (s : List (Side L N)) → P [] ns s → P [] (n ∷ ns) (Name n ∷ s))
    (less : (l : L) (n : N) (ls : List L) (ns : List N) (s : List (Side L N)) → compare l n ≡ Less → P ls (n ∷ ns) s
    → P (l ∷ ls) (n ∷ ns) (Line l ∷ s))
    (equal : (l : L) (n : N) (ls : List L) (ns : List N) (s : List (Side L N)) → compare l n ≡ Equal → P ls ns s
    → P (l ∷ ls) (n ∷ ns) (Both l n ∷ s))
    (greater : (l : L) (n : N) (ls : List L) (ns : List N) (s : List (Side L N)) → compare l n ≡ Greater → P (l ∷ ls) ns s
    → P (l ∷ ls) (n ∷ ns) (Name n ∷ s)) where
  turn : (l : L) (n : N) (ls : List L) (ns : List N) (a b c : List (Side L N)) (o : Ordering) → compare l n ≡ o → P ls (n ∷ ns) a
      → P ls ns b → P (l ∷ ls) ns c → P (l ∷ ls) (n ∷ ns) (in_turn o l n a b c)
  turn l n ls ns a b c Less e p q r = less l n ls ns a e p
  turn l n ls ns a b c Equal e p q r = equal l n ls ns b e q
  turn l n ls ns a b c Greater e p q r = greater l n ls ns c e r

  row : (l : L) (ls : List L) (behind : List N → List (Side L N)) → ((ns : List N) → P ls ns (behind ns))
      → (ns : List N) → P (l ∷ ls) ns (against compare l behind ns)
  row l ls behind ih [] = past_line l ls (behind []) (ih [])
  row l ls behind ih (n ∷ ns) =
      turn l n ls ns (behind (n ∷ ns)) (behind ns) (against compare l behind ns) (compare l n) refl (ih (n ∷ ns)) (ih ns)
      (row l ls behind ih ns)

  names : (ns : List N) → P [] ns (map Name ns)
  names [] = none
  names (n ∷ ns) = past_name n ns (map Name ns) (names ns)

  pub by_turns : (ls : List L) (ns : List N) → P ls ns (beside compare ls ns)
  unfolding beside
  by_turns [] ns = names ns
  by_turns (l ∷ ls) ns = row l ls (beside compare ls) (by_turns ls) ns

-- ---- the first element

module _ {A B L N : Type 0} (compare : L → N → Ordering) (f : A → L) (g : B → N) where
  abbrev sides : List A → List B → List (Side L N)
  sides ls ns = beside compare (map f ls) (map g ns)

  pub first-none : (ls : List A) (ns : List B) → length ls ≡ 0 → length ns ≡ 0 → sides ls ns ≡ []
  unfolding beside
  first-none [] [] e e' = refl
  first-none [] (n ∷ ns) e e' = absurd (omega (arith, e'))
  first-none (l ∷ ls) ns e e' = absurd (omega (arith, e))

  pub first-line : (l : A) (ls ls' : List A) (ns : List B) → ls ≡ l ∷ ls' → length ns ≡ 0 → IsFirst sides ls ns (Line (f l)) 1 0
  unfolding beside
  first-line l ls ls' [] e e' =
      subst (λ x. IsFirst sides x [] (Line (f l)) 1 0) (sym e) (record { has_line = omega arith; has_name = omega arith; is = refl })
  first-line l ls ls' (n ∷ ns) e e' = absurd (omega (arith, e'))

  pub first-name : (n : B) (ls : List A) (ns ns' : List B) → length ls ≡ 0 → ns ≡ n ∷ ns' → IsFirst sides ls ns (Name (g n)) 0 1
  unfolding beside
  first-name n [] ns ns' e e' =
      subst (λ x. IsFirst sides [] x (Name (g n)) 0 1) (sym e') (record { has_line = omega arith; has_name = omega arith; is = refl })
  first-name n (l ∷ ls) ns ns' e e' = absurd (omega (arith, e))

  -- Lemma: merging starts with the first line and the first name in the order of their comparison.
  of-both : (l : A) (n : B) (ls : List A) (ns : List B) (o : Ordering) → compare (f l) (g n) ≡ o
      → sides (l ∷ ls) (n ∷ ns) ≡ in_turn o (f l) (g n) (sides ls (n ∷ ns)) (sides ls ns) (sides (l ∷ ls) ns)
  unfolding beside
  of-both l n ls ns o is =
      ap (λ x. in_turn x (f l) (g n) (sides ls (n ∷ ns)) (sides ls ns) (sides (l ∷ ls) ns)) is

  both-as : (l : A) (n : B) (ls ls' : List A) (ns ns' : List B) (side : Side L N) (k m : ℕ) → ls ≡ l ∷ ls' → ns ≡ n ∷ ns'
      → IsFirst sides (l ∷ ls') (n ∷ ns') side k m → IsFirst sides ls ns side k m
  both-as l n ls ls' ns ns' side k m e e' first =
      subst (λ x. IsFirst sides x ns side k m) (sym e) (subst (λ x. IsFirst sides (l ∷ ls') x side k m) (sym e') first)

  pub first-less : (l : A) (n : B) (ls ls' : List A) (ns ns' : List B) (o : Ordering) → ls ≡ l ∷ ls' → ns ≡ n ∷ ns'
      → o ≡ compare (f l) (g n) → o ≡ Less → IsFirst sides ls ns (Line (f l)) 1 0
  first-less l n ls ls' ns ns' o e e' is less =
      both-as l n ls ls' ns ns' (Line (f l)) 1 0 e e'
      (record { has_line = omega arith; has_name = omega arith; is = of-both l n ls' ns' Less (sym is ∙ less) })

  pub first-both : (l : A) (n : B) (ls ls' : List A) (ns ns' : List B) (o : Ordering) → ls ≡ l ∷ ls' → ns ≡ n ∷ ns'
      → o ≡ compare (f l) (g n) → o ≡ Equal → IsFirst sides ls ns (Both (f l) (g n)) 1 1
  first-both l n ls ls' ns ns' o e e' is equal =
      both-as l n ls ls' ns ns' (Both (f l) (g n)) 1 1 e e'
      (record { has_line = omega arith; has_name = omega arith; is = of-both l n ls' ns' Equal (sym is ∙ equal) })

  pub first-greater : (l : A) (n : B) (ls ls' : List A) (ns ns' : List B) (o : Ordering) → ls ≡ l ∷ ls' → ns ≡ n ∷ ns'
      → o ≡ compare (f l) (g n) → o ≡ Greater → IsFirst sides ls ns (Name (g n)) 0 1
  first-greater l n ls ls' ns ns' o e e' is greater =
      both-as l n ls ls' ns ns' (Name (g n)) 0 1 e e'
      (record { has_line = omega arith; has_name = omega arith; is = of-both l n ls' ns' Greater (sym is ∙ greater) })
