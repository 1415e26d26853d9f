-- Proves that rows of rising lines and names have the results of merging the lines and the digests.
use Rattle.std.proofs.Common.{◌≡◌, ℕ, Bool, true, false, List, [], ◌∷◌, map, refl, sym, ap, subst, ◌∙◌, inl, inr, Less, Equal, Greater}
use Rattle.xxhsum_app.proofs.Prelude.{Both, Found, IsAmong, IsPermutation-refl, Item, Line, Missing, Name, New, Rises, Says, Side, ahead, back, by_turns, compare_lines, compare_paths, kind_of, met, name_of, paths_total}
use Rattle.xxhsum_app.specs.Prelude.{Digested, Files, IsDirectory, Kind, Outcome, Unread}
use Rattle.xxhsum_app.specs.Rows.{Added, AreRows, Met, Removed, Row, first_in, is_hidden, kept_in, seen_in}
use Rattle.xxhsum_audit.specs.Audit.{HasMoves, IsAudit, as_found, compared, matched_in, missing_in, new_in}
use Rattle.xxhsum_audit.specs.Side.{against, beside, by_path, compare_to_name, in_turn}

-- ---- the first element of a merge

line-first : (l : Item) (ks ss : List Item) → ((s : Item) → IsAmong ss s → compare_lines l s ≡ Less)
    → compared (l ∷ ks) ss ≡ Missing l ∷ compared ks ss
unfolding beside
line-first l ks [] less = refl
line-first l ks (s ∷ ss) less =
    ap (λ o. map (as_found met) (in_turn o l s (beside compare_lines ks (s ∷ ss)) (beside compare_lines ks ss) (against compare_lines l (beside compare_lines ks) ss))) (less s (inl refl))

name-first : (s : Item) (ks ss : List Item) → ((k : Item) → IsAmong ks k → compare_lines k s ≡ Greater)
    → compared ks (s ∷ ss) ≡ New s ∷ compared ks ss
unfolding beside
name-first s [] ss greater = refl
name-first s (k ∷ ks) ss greater =
    ap (λ o. map (as_found met) (in_turn o k s (beside compare_lines ks (s ∷ ss)) (beside compare_lines ks ss) (against compare_lines k (beside compare_lines ks) ss))) (greater k (inl refl))

both-first : (k s : Item) (ks ss : List Item) → compare_lines k s ≡ Equal → compared (k ∷ ks) (s ∷ ss) ≡ met k s ∷ compared ks ss
unfolding beside
both-first k s ks ss equal =
    ap (λ o. map (as_found met) (in_turn o k s (beside compare_lines ks (s ∷ ss)) (beside compare_lines ks ss) (against compare_lines k (beside compare_lines ks) ss))) equal

-- ---- one more row

record Joined (kind : Kind) (ls : List Item) (ns : List (List ℕ)) (rows : List Row) : Type 0 where
  pub kept : (k : Item) → IsAmong (kept_in rows) k → IsAmong ls k
  pub seen : (s : Item) → IsAmong (seen_in kind rows) s → IsAmong ns (name_of s)
  pub kept_rise : Rises compare_lines (kept_in rows)
  pub seen_rise : Rises compare_lines (seen_in kind rows)
  pub is : compared (kept_in rows) (seen_in kind rows) ≡ first_in kind rows

joined-none : (kind : Kind) → Joined kind [] [] []
unfolding beside
joined-none kind = record { kept = λ k h. h; seen = λ s h. absurd h; kept_rise = tt; seen_rise = tt; is = refl }

-- Lemma: rows of some of the lines and names satisfy `Joined` for all of them.
wider : (kind : Kind) (ls ls' : List Item) (ns ns' : List (List ℕ)) (rows : List Row) → ((k : Item) → IsAmong ls k → IsAmong ls' k)
    → ((n : List ℕ) → IsAmong ns n → IsAmong ns' n) → Joined kind ls ns rows → Joined kind ls' ns' rows
wider kind ls ls' ns ns' rows lines names ih = record {
  kept = λ k h. lines k (ih.kept k h);
  seen = λ s h. names (name_of s) (ih.seen s h);
  kept_rise = ih.kept_rise;
  seen_rise = ih.seen_rise;
  is = ih.is;
}

-- Lemma: a line that is less than all names adds a `Removed` row.
joined-removed : (kind : Kind) (l : Item) (hidden : Bool) (ls : List Item) (ns : List (List ℕ)) (rows : List Row) → Rises compare_lines (l ∷ ls)
    → ((n : List ℕ) → IsAmong ns n → compare_to_name l n ≡ Less) → Joined kind ls ns rows → Joined kind (l ∷ ls) ns (Removed l hidden ∷ rows)
joined-removed kind l false ls ns rows up less ih = record {
  kept = λ k h. elim h [ inl e ↦ inl e | inr there ↦ inr (ih.kept k there) ];
  seen = ih.seen;
  kept_rise = (λ k h. up.0 k (ih.kept k h), ih.kept_rise);
  seen_rise = ih.seen_rise;
  is = line-first l (kept_in rows) (seen_in kind rows) (λ s h. less (name_of s) (ih.seen s h)) ∙ ap (λ f. Missing l ∷ f) ih.is;
}
joined-removed kind l true ls ns rows up less ih =
    let wide = wider kind ls (l ∷ ls) ns ns rows (λ k h. inr h) (λ n h. h) ih in
    record { kept = wide.kept; seen = wide.seen; kept_rise = wide.kept_rise; seen_rise = wide.seen_rise; is = wide.is }

-- Lemma: a name that is less than all lines adds a `Added` row.
joined-added : (kind : Kind) (n : List ℕ) (ls : List Item) (ns : List (List ℕ)) (rows : List Row) (outcome : Outcome)
    → Rises compare_paths (n ∷ ns) → ((k : Item) → IsAmong ls k → compare_to_name k n ≡ Greater) → Joined kind ls ns rows
    → Joined kind ls (n ∷ ns) (Added n outcome ∷ rows)
joined-added kind n ls ns rows (Digested value) up greater ih =
    let s = Says n kind value in
    record {
      kept = ih.kept;
      seen = λ t h. elim h [ inl e ↦ inl (ap name_of e) | inr there ↦ inr (ih.seen t there) ];
      kept_rise = ih.kept_rise;
      seen_rise = (λ t h. up.0 (name_of t) (ih.seen t h), ih.seen_rise);
      is = name-first s (kept_in rows) (seen_in kind rows) (λ k h. greater k (ih.kept k h)) ∙ ap (λ f. New s ∷ f) ih.is;
    }
joined-added kind n ls ns rows IsDirectory up greater ih =
    let wide = wider kind ls ls ns (n ∷ ns) rows (λ k h. h) (λ m h. inr h) ih in
    record { kept = wide.kept; seen = wide.seen; kept_rise = wide.kept_rise; seen_rise = wide.seen_rise; is = wide.is }
joined-added kind n ls ns rows (Unread reason) up greater ih =
    let wide = wider kind ls ls ns (n ∷ ns) rows (λ k h. h) (λ m h. inr h) ih in
    record { kept = wide.kept; seen = wide.seen; kept_rise = wide.kept_rise; seen_rise = wide.seen_rise; is = wide.is }

-- Lemma: a line and its name add a `Met` row.
joined-met : (kind : Kind) (l : Item) (n : List ℕ) (ls : List Item) (ns : List (List ℕ)) (rows : List Row) (outcome : Outcome)
    → Rises compare_lines (l ∷ ls) → Rises compare_paths (n ∷ ns) → compare_to_name l n ≡ Equal → Joined kind ls ns rows
    → Joined kind (l ∷ ls) (n ∷ ns) (Met l n outcome ∷ rows)
joined-met kind l n ls ns rows (Digested value) up up' equal ih =
    let s = Says n (kind_of l) value in
    record {
      kept = λ k h. elim h [ inl e ↦ inl e | inr there ↦ inr (ih.kept k there) ];
      seen = λ t h. elim h [ inl e ↦ inl (ap name_of e) | inr there ↦ inr (ih.seen t there) ];
      kept_rise = (λ k h. up.0 k (ih.kept k h), ih.kept_rise);
      seen_rise = (λ t h. up'.0 (name_of t) (ih.seen t h), ih.seen_rise);
      is = both-first l s (kept_in rows) (seen_in kind rows) equal ∙ ap (λ f. met l s ∷ f) ih.is;
    }
joined-met kind l n ls ns rows IsDirectory up up' equal ih =
    let wide = wider kind ls (l ∷ ls) ns (n ∷ ns) rows (λ k h. inr h) (λ m h. inr h) ih in
    record { kept = wide.kept; seen = wide.seen; kept_rise = wide.kept_rise; seen_rise = wide.seen_rise; is = wide.is }
joined-met kind l n ls ns rows (Unread reason) up up' equal ih =
    let wide = wider kind ls (l ∷ ls) ns (n ∷ ns) rows (λ k h. inr h) (λ m h. inr h) ih in
    record { kept = wide.kept; seen = wide.seen; kept_rise = wide.kept_rise; seen_rise = wide.seen_rise; is = wide.is }

-- ---- all rows

before-names : (l : Item) (n : List ℕ) (ns : List (List ℕ)) → compare_to_name l n ≡ Less → Rises compare_paths (n ∷ ns)
    → (m : List ℕ) → IsAmong (n ∷ ns) m → compare_to_name l m ≡ Less
before-names l n ns less up m (inl e) = subst (λ x. compare_to_name l x ≡ Less) e less
before-names l n ns less up m (inr h) = paths_total.trans (name_of l) n m less (up.0 m h)

after-lines : (l : Item) (n : List ℕ) (ls : List Item) → compare_to_name l n ≡ Greater → Rises compare_lines (l ∷ ls)
    → (k : Item) → IsAmong (l ∷ ls) k → compare_to_name k n ≡ Greater
after-lines l n ls greater up k (inl e) = subst (λ x. compare_to_name x n ≡ Greater) e greater
after-lines l n ls greater up k (inr h) =
    ahead compare_paths paths_total n (name_of k)
    (paths_total.trans n (name_of l) (name_of k) (back compare_paths paths_total (name_of l) n greater) (up.0 k h))

module _ {S F : Type 0} (files : Files S F) (kind : Kind) (lost : List (List ℕ)) where
  abbrev Joins : List Item → List (List ℕ) → List (Side Item (List ℕ)) → Type 0
  Joins ls ns sides =
      (rows : List Row) → AreRows files kind lost sides rows → Rises compare_lines ls → Rises compare_paths ns
      → Joined kind ls ns rows

  removed : (l : Item) (ls : List Item) (ns : List (List ℕ)) (s : List (Side Item (List ℕ)))
      → (Rises compare_paths ns → (n : List ℕ) → IsAmong ns n → compare_to_name l n ≡ Less) → Joins ls ns s → Joins (l ∷ ls) ns (Line l ∷ s)
  removed l ls ns s less ih rows are up up' =
      let row : are.0 ≡ Removed l (is_hidden lost (name_of l)) = are.3 in
      subst (λ r. Joined kind (l ∷ ls) ns r) (ap (λ r. r ∷ are.1) (sym row) ∙ sym are.2)
      (joined-removed kind l (is_hidden lost (name_of l)) ls ns are.1 up (less up') (ih are.1 are.4 up.1 up'))

  added : (n : List ℕ) (ls : List Item) (ns : List (List ℕ)) (s : List (Side Item (List ℕ)))
      → (Rises compare_lines ls → (k : Item) → IsAmong ls k → compare_to_name k n ≡ Greater) → Joins ls ns s → Joins ls (n ∷ ns) (Name n ∷ s)
  added n ls ns s greater ih rows are up up' =
      subst (λ r. Joined kind ls (n ∷ ns) r) (ap (λ r. r ∷ are.1) (sym are.3.1) ∙ sym are.2)
      (joined-added kind n ls ns are.1 are.3.0 up' (greater up) (ih are.1 are.4 up up'.1))

  meet : (l : Item) (n : List ℕ) (ls : List Item) (ns : List (List ℕ)) (s : List (Side Item (List ℕ))) → compare_to_name l n ≡ Equal
      → Joins ls ns s → Joins (l ∷ ls) (n ∷ ns) (Both l n ∷ s)
  meet l n ls ns s equal ih rows are up up' =
      subst (λ r. Joined kind (l ∷ ls) (n ∷ ns) r) (ap (λ r. r ∷ are.1) (sym are.3.1) ∙ sym are.2)
      (joined-met kind l n ls ns are.1 are.3.0 up up' equal (ih are.1 are.4 up.1 up'.1))

  joins : (ls : List Item) (ns : List (List ℕ)) → Joins ls ns (by_path ls ns)
  joins = by_turns compare_to_name Joins (λ rows are up up'. subst (λ r. Joined kind [] [] r) (sym are) (joined-none kind))
      (λ l ls s ih. removed l ls [] s (λ up n h. absurd h) ih)
      (λ n ns s ih. added n [] ns s (λ up k h. absurd h) ih)
      (λ l n ls ns s less ih. removed l ls (n ∷ ns) s (λ up m h. before-names l n ns less up m h) ih)
      (λ l n ls ns s equal ih. meet l n ls ns s equal ih)
      (λ l n ls ns s greater ih. added n (l ∷ ls) ns s (λ up k h. after-lines l n ls greater up k h) ih)

  pub is-audit : (lines : List Item) (names : List (List ℕ)) (rows : List Row) (found : List Found) → Rises compare_lines lines
      → Rises compare_paths names → AreRows files kind lost (by_path lines names) rows
      → HasMoves (matched_in (first_in kind rows)) (missing_in (first_in kind rows)) (new_in (first_in kind rows)) found
      → IsAudit (kept_in rows) (seen_in kind rows) found
  is-audit lines names rows found up up' are moves =
      let all = joins lines names rows are up up' in
      record {
        ordered_lines = kept_in rows;
        ordered_names = seen_in kind rows;
        lines_same = IsPermutation-refl (kept_in rows);
        names_same = IsPermutation-refl (seen_in kind rows);
        lines_rise = all.kept_rise;
        names_rise = all.seen_rise;
        moves = subst (λ f. HasMoves (matched_in f) (missing_in f) (new_in f) found) (sym all.is) moves;
      }
