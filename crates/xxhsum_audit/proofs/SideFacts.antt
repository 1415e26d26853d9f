-- Proves that an unmatched element of a merge has no partner.
use Rattle.xxhsum_audit.proofs.Prelude.{◌≡◌, ◌≢◌, List, [], ◌∷◌, ◌++◌, refl, sym, ap, subst, ◌∙◌, inl, inr, flat_map, Less, Equal, Greater, compared, missing_in, missing_one, new_in, new_one, matched_one, Changed, Copied, Found, Missing}
use Rattle.xxhsum_audit.proofs.Prelude.{Moved, New, Same, line_in, lines_in, met, name_in, names_in, IsAmong, Item, LacksPath, name_of, path_of, Rises, compare_lines}
use Rattle.xxhsum_audit.proofs.AmongFacts.{among_either, among_left, among_right}
use Rattle.xxhsum_audit.proofs.FoundFacts.{Covers, by_founds, met_is, met_pair}
use Rattle.xxhsum_audit.proofs.OrderFacts.{back, lines_exact, lines_total, paths_tied}

-- ---- one side of the results: the lines or the names, and the unmatched ones

-- A side: the items of a result are matched, or all of them are unmatched.
abbrev pub IsSide : (of alone : Found → List Item) → Type 0
IsSide of alone = (x : Found) → (of x ≡ flat_map of (matched_one x) ++ alone x) × (flat_map alone (matched_one x) ≡ [])

pub side_of_lines : IsSide line_in missing_one
side_of_lines (Same l n) = (refl, refl)
side_of_lines (Changed l n) = (refl, refl)
side_of_lines (Moved l n) = (refl, refl)
side_of_lines (Copied o n) = (refl, refl)
side_of_lines (New n) = (refl, refl)
side_of_lines (Missing l) = (refl, refl)

pub side_of_names : IsSide name_in new_one
side_of_names (Same l n) = (refl, refl)
side_of_names (Changed l n) = (refl, refl)
side_of_names (Moved l n) = (refl, refl)
side_of_names (Copied o n) = (refl, refl)
side_of_names (New n) = (refl, refl)
side_of_names (Missing l) = (refl, refl)

-- Lemma: an unmatched item is one of all items.
alone_is : (of alone : Found → List Item) → IsSide of alone → (f : List Found) (i : Item) → IsAmong (flat_map alone f) i
    → IsAmong (flat_map of f) i
alone_is of alone side [] i h = h
alone_is of alone side (x ∷ f) i h =
    elim (among_either (alone x) (flat_map alone f) i h) [
      | inl a ↦
          let here = among_right (flat_map of (matched_one x)) (alone x) i a in
          among_left (of x) (flat_map of f) i (subst (λ l. IsAmong l i) (sym (side x).0) here)
      | inr b ↦ among_right (of x) (flat_map of f) i (alone_is of alone side f i b)
    ]

pub missing_line : (ls : List Item) (f : List Found) → lines_in f ≡ ls → (l : Item) → IsAmong (missing_in f) l → IsAmong ls l
missing_line ls f all l h = subst (λ x. IsAmong x l) all (alone_is line_in missing_one side_of_lines f l h)

pub new_name : (ns : List Item) (f : List Found) → names_in f ≡ ns → (n : Item) → IsAmong (new_in f) n → IsAmong ns n
new_name ns f all n h = subst (λ x. IsAmong x n) all (alone_is name_in new_one side_of_names f n h)

-- Lemma: a pair has no unmatched line.
past_missing : (l n : Item) (f : List Found) (x : Item) → IsAmong (missing_in (met l n ∷ f)) x → IsAmong (missing_in f) x
past_missing l n f x h =
    subst (λ o. IsAmong (o ++ missing_in f) x) (met_is (λ m. missing_one m ≡ []) l n (λ e. refl) (λ e. refl)) h

past_new : (l n : Item) (f : List Found) (x : Item) → IsAmong (new_in (met l n ∷ f)) x → IsAmong (new_in f) x
past_new l n f x h =
    subst (λ o. IsAmong (o ++ new_in f) x) (met_is (λ m. new_one m ≡ []) l n (λ e. refl) (λ e. refl)) h

-- ---- merging by name

-- Lemma: two names have different paths if one compares as less than the other.
pub not_less : (a b : Item) → compare_lines a b ≡ Less → path_of a ≢ path_of b
not_less a b less e = let tied = paths_tied (name_of a) (name_of b) e in let no : ⊥ = cc in no

-- Lemma: no item of a rising list has the path of a name that is less than the first item's.
lower : (a b : Item) (bs : List Item) → compare_lines a b ≡ Less → Rises compare_lines (b ∷ bs) → LacksPath (b ∷ bs) (path_of a)
lower a b bs e up item h =
    elim h [
      | inl same ↦ λ eq. not_less a b e (sym (ap path_of same ∙ eq))
      | inr there ↦ λ eq. not_less a item (lines_total.trans a b item e (up.0 item there)) (sym eq)
    ]

-- The facts on the lines and names that are merged: no unmatched one has a partner.
pub record ByNames (ls ns : List Item) (f : List Found) : Type 0 where
  pub missing : Rises compare_lines ls → Rises compare_lines ns → (l : Item) → IsAmong (missing_in f) l → LacksPath ns (path_of l)
  pub new : Rises compare_lines ls → Rises compare_lines ns → (n : Item) → IsAmong (new_in f) n → LacksPath ls (path_of n)

none : ByNames [] [] []
none = record { missing = λ up up' l h. absurd h; new = λ up up' n h. absurd h }

past_line : (l : Item) (ls : List Item) (f : List Found) → Covers ls [] f → ByNames ls [] f → ByNames (l ∷ ls) [] (Missing l ∷ f)
past_line l ls f all ih = record {
  missing = λ up up' x h item none. absurd none;
  new = λ up up' n h. absurd (new_name [] f all.names n h);
}

past_name : (n : Item) (ns : List Item) (f : List Found) → Covers [] ns f → ByNames [] ns f → ByNames [] (n ∷ ns) (New n ∷ f)
past_name n ns f all ih = record {
  missing = λ up up' x h. absurd (missing_line [] f all.lines x h);
  new = λ up up' x h item none. absurd none;
}

less : (l n : Item) (ls ns : List Item) (f : List Found) → compare_lines l n ≡ Less → Covers ls (n ∷ ns) f → ByNames ls (n ∷ ns) f
    → ByNames (l ∷ ls) (n ∷ ns) (Missing l ∷ f)
less l n ls ns f e all ih = record {
  missing = λ up up' x h.
      elim h [
        | inl same ↦ subst (λ y. LacksPath (n ∷ ns) (path_of y)) same (lower l n ns e up')
        | inr k ↦ ih.missing up.1 up' x k
      ];
  new = λ up up' x h item k.
      elim k [
        | inl same ↦ λ eq. lower l n ns e up' x (new_name (n ∷ ns) f all.names x h) (sym eq ∙ ap path_of (sym same))
        | inr there ↦ ih.new up.1 up' x h item there
      ];
}

equal : (l n : Item) (ls ns : List Item) (f : List Found) → compare_lines l n ≡ Equal → Covers ls ns f → ByNames ls ns f
    → ByNames (l ∷ ls) (n ∷ ns) (met l n ∷ f)
equal l n ls ns f e all ih = record {
  missing = λ up up' x h item k.
      let there = past_missing l n f x h in
      elim k [
        | inl same ↦ λ eq. not_less l x (up.0 x (missing_line ls f all.lines x there))
            (lines_exact l n e ∙ ap path_of same ∙ eq)
        | inr behind ↦ ih.missing up.1 up'.1 x there item behind
      ];
  new = λ up up' x h item k.
      let there = past_new l n f x h in
      elim k [
        | inl same ↦ λ eq. not_less n x (up'.0 x (new_name ns f all.names x there))
            (sym (lines_exact l n e) ∙ ap path_of same ∙ eq)
        | inr behind ↦ ih.new up.1 up'.1 x there item behind
      ];
}

greater : (l n : Item) (ls ns : List Item) (f : List Found) → compare_lines l n ≡ Greater → Covers (l ∷ ls) ns f → ByNames (l ∷ ls) ns f
    → ByNames (l ∷ ls) (n ∷ ns) (New n ∷ f)
greater l n ls ns f e all ih = record {
  missing = λ up up' x h item k.
      elim k [
        | inl same ↦ λ eq. lower n l ls (back compare_lines lines_total l n e) up x (missing_line (l ∷ ls) f all.lines x h)
            (sym eq ∙ ap path_of (sym same))
        | inr there ↦ ih.missing up up'.1 x h item there
      ];
  new = λ up up' x h.
      elim h [
        | inl same ↦ subst (λ y. LacksPath (l ∷ ls) (path_of y)) same
            (lower n l ls (back compare_lines lines_total l n e) up)
        | inr k ↦ ih.new up up'.1 x k
      ];
}

pub by_names : (ls ns : List Item) → ByNames ls ns (compared ls ns)
by_names ls ns = (by_founds met met_pair compare_lines ByNames none past_line past_name less equal greater ls ns).1
