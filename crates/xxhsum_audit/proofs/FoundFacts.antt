-- Lemmas on the results of a merge of lines and names, by induction.
use Rattle.xxhsum_audit.proofs.Prelude.{◌≡◌, Bool, true, false, List, [], ◌∷◌, ◌++◌, map, refl, sym, ap, subst, ◌∙◌, Ordering, Less, Equal, Greater, is_eq, cond-true, cond-false, Side, as_found, Changed, Found, Missing, Moved, New, Same}
use Rattle.xxhsum_audit.proofs.Prelude.{line_in, lines_in, met, name_in, names_in, Item, compare_digests, beside}
use Rattle.xxhsum_audit.proofs.TurnFacts.{by_turns}

-- ---- the result of a pair

met_cases : (P : Found → Type 0) (l n : Item) (b : Bool) → is_eq (compare_digests l n) ≡ b
    → (is_eq (compare_digests l n) ≡ true → P (Same l n)) → (is_eq (compare_digests l n) ≡ false → P (Changed l n)) → P (met l n)
met_cases P l n true e same changed = subst P (sym (cond-true (is_eq (compare_digests l n)) (Same l n) (Changed l n) e)) (same e)
met_cases P l n false e same changed = subst P (sym (cond-false (is_eq (compare_digests l n)) (Same l n) (Changed l n) e)) (changed e)

pub met_is : (P : Found → Type 0) (l n : Item) → (is_eq (compare_digests l n) ≡ true → P (Same l n))
    → (is_eq (compare_digests l n) ≡ false → P (Changed l n)) → P (met l n)
met_is P l n same changed = met_cases P l n (is_eq (compare_digests l n)) refl same changed

-- A function whose result for a line and a name has that line and that name.
abbrev pub IsPair : (Item → Item → Found) → Type 0
IsPair pair = (l n : Item) → (line_in (pair l n) ≡ l ∷ []) × (name_in (pair l n) ≡ n ∷ [])

pub met_pair : IsPair met
met_pair l n =
    (met_is (λ f. line_in f ≡ l ∷ []) l n (λ e. refl) (λ e. refl), met_is (λ f. name_in f ≡ n ∷ []) l n (λ e. refl) (λ e. refl))

pub moved_pair : IsPair Moved
moved_pair l n = (refl, refl)

-- ---- each line and each name once

-- Results with exactly these lines and names, in this order.
pub record Covers (ls ns : List Item) (f : List Found) : Type 0 where
  pub lines : lines_in f ≡ ls
  pub names : names_in f ≡ ns

more_line : (l : Item) (ls ns : List Item) (f : List Found) → Covers ls ns f → Covers (l ∷ ls) ns (Missing l ∷ f)
more_line l ls ns f all = record { lines = ap (λ x. l ∷ x) all.lines; names = all.names }

more_name : (n : Item) (ls ns : List Item) (f : List Found) → Covers ls ns f → Covers ls (n ∷ ns) (New n ∷ f)
more_name n ls ns f all = record { lines = all.lines; names = ap (λ x. n ∷ x) all.names }

module _ (pair : Item → Item → Found) (is_pair : IsPair pair) (compare : Item → Item → Ordering) where
  more_pair : (l n : Item) (ls ns : List Item) (f : List Found) → Covers ls ns f → Covers (l ∷ ls) (n ∷ ns) (pair l n ∷ f)
  more_pair l n ls ns f all = record {
    lines = ap (λ x. x ++ lines_in f) (is_pair l n).0 ∙ ap (λ x. l ∷ x) all.lines;
    names = ap (λ x. x ++ names_in f) (is_pair l n).1 ∙ ap (λ x. n ∷ x) all.names;
  }

  module _ (P : List Item → List Item → List Found → Type 0)
      (none : P [] [] [])
      (past_line : (l : Item) (ls : List Item) (f : List Found) → Covers ls [] f → P ls [] f → P (l ∷ ls) [] (Missing l ∷ f))
      (past_name : (n : Item) (ns : List Item) (f : List Found) → Covers [] ns f → P [] ns f → P [] (n ∷ ns) (New n ∷ f))
      (less : (l n : Item) (ls ns : List Item) (f : List Found) → compare l n ≡ Less → Covers ls (n ∷ ns) f → P ls (n ∷ ns) f
      → P (l ∷ ls) (n ∷ ns) (Missing l ∷ f))
      (equal : (l n : Item) (ls ns : List Item) (f : List Found) → compare l n ≡ Equal → Covers ls ns f → P ls ns f
      → P (l ∷ ls) (n ∷ ns) (pair l n ∷ f))
      (greater : (l n : Item) (ls ns : List Item) (f : List Found) → compare l n ≡ Greater → Covers (l ∷ ls) ns f → P (l ∷ ls) ns f
      → P (l ∷ ls) (n ∷ ns) (New n ∷ f)) where
    abbrev Holds : List Item → List Item → List (Side Item Item) → Type 0
    Holds ls ns s = Covers ls ns (map (as_found pair) s) × P ls ns (map (as_found pair) s)

    pub by_founds : (ls ns : List Item) → Holds ls ns (beside compare ls ns)
    by_founds = by_turns compare Holds (record { lines = refl; names = refl }, none)
        (λ l ls s p. (more_line l ls [] (map (as_found pair) s) p.0, past_line l ls (map (as_found pair) s) p.0 p.1))
        (λ n ns s p. (more_name n [] ns (map (as_found pair) s) p.0, past_name n ns (map (as_found pair) s) p.0 p.1))
        (λ l n ls ns s e p. (more_line l ls (n ∷ ns) (map (as_found pair) s) p.0, less l n ls ns (map (as_found pair) s) e p.0 p.1))
        (λ l n ls ns s e p. (more_pair l n ls ns (map (as_found pair) s) p.0, equal l n ls ns (map (as_found pair) s) e p.0 p.1))
        (λ l n ls ns s e p. (more_name n (l ∷ ls) ns (map (as_found pair) s) p.0, greater l n ls ns (map (as_found pair) s) e p.0 p.1))

  pub covers : (ls ns : List Item) → Covers ls ns (map (as_found pair) (beside compare ls ns))
  covers ls ns =
      (by_founds (λ _ _ _. Unit {0}) tt (λ _ _ _ _ _. tt) (λ _ _ _ _ _. tt) (λ _ _ _ _ _ _ _ _. tt) (λ _ _ _ _ _ _ _ _. tt)
      (λ _ _ _ _ _ _ _ _. tt) ls ns).0
