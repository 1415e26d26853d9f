-- Proves that if an audit is good, the lines and the files match each other.
use Rattle.std.proofs.Common.{◌≡◌, ℕ, Bool, true, false, List, [], ◌∷◌, ◌++◌, arith, length, Option, Some, None, refl, sym, ap, subst, ◌∙◌, inl, inr, Ok}
use Rattle.xxhsum_app.proofs.Prelude.{AuditMeansEqual, Both, Effect, IsFileOf, IsPermutation-sym, Line, Name, Side, among_permutation, are_same, both-true, by_path, by_turns, compare_to_name, effect_of, has_none, nat_tests, same_means_equal}
use Rattle.xxhsum_app.specs.Prelude.{Digested, Files, IsDirectory, Kind, Options, Outcome, SourceRules, StoreRules, StreamRules, Streams, Unread, files_of}
use Rattle.xxhsum_app.proofs.VisitFacts.{none-of}
use Rattle.xxhsum_app.specs.Audits.{AuditsItems, AuditsSides, OnlyReportsDuplicate}
use Rattle.xxhsum_app.specs.Rows.{Added, AreRows, Met, Removed, Row, is_hidden, kept_in, seen_in, unless_digested, unread_in}
use Rattle.xxhsum_audit.specs.Found.{Changed, Copied, Found, Missing, Moved, New, Same}
use Rattle.xxhsum_audit.specs.Item.{IsAmong, Item, Says, kind_of, name_of, path_of, value_of}
use Rattle.xxhsum_program.specs.Outcomes.{Comes, IsValueOf, is_digested}

all-same : (f : List Found) → are_same f ≡ true → (one : Found) → IsAmong f one → (line name : Item) × (one ≡ Same line name)
all-same [] e one h = absurd h
all-same (Same l n ∷ f) e one (inl is) = (l, n, sym is)
all-same (Same l n ∷ f) e one (inr h) = all-same f e one h
all-same (found ∷ f) e one h = let no : ⊥ = cc in absurd no

-- Lemma: a name that is not unreadable has a digest.
digested : (name : List ℕ) (outcome : Outcome) → unless_digested name outcome ≡ [] → is_digested outcome ≡ true
digested name (Digested value) e = refl
digested name outcome e = let no : ⊥ = cc in absurd no

pub nothing : (xs : List (List ℕ)) → has_none xs ≡ true → xs ≡ []
nothing [] e = refl
nothing (x ∷ xs) e = let long : length (x ∷ xs) ≡ 0 = grind (arith, nat_tests, e) in absurd (omega (arith, long))

module _ {S F : Type 0} (files : Files S F) (kind : Kind) (lost : List (List ℕ)) where
  -- An item with the correct value of its file.
  abbrev IsTrue : Item → Type 0
  IsTrue item = IsValueOf files (kind_of item) (name_of item) (value_of item)

  -- Rows with all lines and names and no others, each name with its value.
  abbrev AllThere : List Item → List (List ℕ) → List Row → Type 0
  AllThere ls ns rows =
      ((l : Item) → IsAmong ls l → IsAmong (kept_in rows) l) × ((l : Item) → IsAmong (kept_in rows) l → IsAmong ls l)
      × ((n : List ℕ) → IsAmong ns n → (s : Item) × IsAmong (seen_in kind rows) s × (name_of s ≡ n))
      × ((s : Item) → IsAmong (seen_in kind rows) s → IsAmong ns (name_of s) × IsTrue s)

  there-line : (l : Item) (ls : List Item) (ns : List (List ℕ)) (rows : List Row) → AllThere ls ns rows → AllThere (l ∷ ls) ns (Removed l false ∷ rows)
  there-line l ls ns rows ih = (
    λ k h. elim h [ inl e ↦ inl e | inr b ↦ inr (ih.0 k b) ],
    λ k h. elim h [ inl e ↦ inl e | inr b ↦ inr (ih.1 k b) ],
    ih.2,
    ih.3,
  )

  there-name : (n : List ℕ) (ls : List Item) (ns : List (List ℕ)) (rows : List Row) (outcome : Outcome) → is_digested outcome ≡ true
      → Comes files kind n outcome → AllThere ls ns rows → AllThere ls (n ∷ ns) (Added n outcome ∷ rows)
  there-name n ls ns rows (Digested v) is comes ih = (
    ih.0,
    ih.1,
    λ m h. elim h [ inl e ↦ (Says n kind v, inl refl, e) | inr b ↦ let t = ih.2 m b in (t.0, inr t.1, t.2) ],
    λ s h.
        elim h [
          | inl e ↦ subst (λ t. IsAmong (n ∷ ns) (name_of t) × IsTrue t) e (inl refl, comes.1)
          | inr b ↦ let t = ih.3 s b in (inr t.0, t.1)
        ],
  )
  there-name n ls ns rows outcome is comes ih = let no : ⊥ = cc in absurd no

  there-both : (l : Item) (n : List ℕ) (ls : List Item) (ns : List (List ℕ)) (rows : List Row) (outcome : Outcome) → is_digested outcome ≡ true
      → Comes files (kind_of l) n outcome → AllThere ls ns rows → AllThere (l ∷ ls) (n ∷ ns) (Met l n outcome ∷ rows)
  there-both l n ls ns rows (Digested v) is comes ih = (
    λ k h. elim h [ inl e ↦ inl e | inr b ↦ inr (ih.0 k b) ],
    λ k h. elim h [ inl e ↦ inl e | inr b ↦ inr (ih.1 k b) ],
    λ m h. elim h [ inl e ↦ (Says n (kind_of l) v, inl refl, e) | inr b ↦ let t = ih.2 m b in (t.0, inr t.1, t.2) ],
    λ s h.
        elim h [
          | inl e ↦ subst (λ t. IsAmong (n ∷ ns) (name_of t) × IsTrue t) e (inl refl, comes.1)
          | inr b ↦ let t = ih.3 s b in (inr t.0, t.1)
        ],
  )
  there-both l n ls ns rows outcome is comes ih = let no : ⊥ = cc in absurd no

  abbrev AllRead : List Item → List (List ℕ) → List (Side Item (List ℕ)) → Type 0
  AllRead ls ns sides = (rows : List Row) → AreRows files kind lost sides rows → unread_in rows ≡ [] → AllThere ls ns rows

  read-line-by : (hidden : Bool) (l : Item) (ls : List Item) (ns : List (List ℕ)) (s : List (Side Item (List ℕ))) → AllRead ls ns s → (rows rest : List Row)
      → Removed l hidden ∷ rest ≡ rows → AreRows files kind lost s rest → unread_in rows ≡ [] → AllThere (l ∷ ls) ns rows
  read-line-by true l ls ns s ih rows rest whole are read =
      let no : name_of l ∷ unread_in rest ≡ [] = subst (λ r. unread_in r ≡ []) (sym whole) read in let none : ⊥ = cc in absurd none
  read-line-by false l ls ns s ih rows rest whole are read =
      subst (λ r. AllThere (l ∷ ls) ns r) whole (there-line l ls ns rest (ih rest are (subst (λ r. unread_in r ≡ []) (sym whole) read)))

  read-line : (l : Item) (ls : List Item) (ns : List (List ℕ)) (s : List (Side Item (List ℕ))) → AllRead ls ns s → AllRead (l ∷ ls) ns (Line l ∷ s)
  read-line l ls ns s ih rows are read =
      read-line-by (is_hidden lost (name_of l)) l ls ns s ih rows are.1 (ap (λ r. r ∷ are.1) (sym are.3) ∙ sym are.2) are.4 read

  read-name : (n : List ℕ) (ls : List Item) (ns : List (List ℕ)) (s : List (Side Item (List ℕ))) → AllRead ls ns s → AllRead ls (n ∷ ns) (Name n ∷ s)
  read-name n ls ns s ih rows are read =
      let whole : Added n are.3.0 ∷ are.1 ≡ rows = ap (λ r. r ∷ are.1) (sym are.3.1) ∙ sym are.2 in
      let both = none-of (unless_digested n are.3.0) (unread_in are.1) (subst (λ r. unread_in r ≡ []) (sym whole) read) in
      subst (λ r. AllThere ls (n ∷ ns) r) whole (there-name n ls ns are.1 are.3.0 (digested n are.3.0 both.0) are.3.2 (ih are.1 are.4 both.1))

  read-both : (l : Item) (n : List ℕ) (ls : List Item) (ns : List (List ℕ)) (s : List (Side Item (List ℕ))) → AllRead ls ns s
      → AllRead (l ∷ ls) (n ∷ ns) (Both l n ∷ s)
  read-both l n ls ns s ih rows are read =
      let whole : Met l n are.3.0 ∷ are.1 ≡ rows = ap (λ r. r ∷ are.1) (sym are.3.1) ∙ sym are.2 in
      let both = none-of (unless_digested n are.3.0) (unread_in are.1) (subst (λ r. unread_in r ≡ []) (sym whole) read) in
      subst (λ r. AllThere (l ∷ ls) (n ∷ ns) r) whole (there-both l n ls ns are.1 are.3.0 (digested n are.3.0 both.0) are.3.2 (ih are.1 are.4 both.1))

  pub all-there : (ls : List Item) (ns : List (List ℕ)) → AllRead ls ns (by_path ls ns)
  all-there = by_turns compare_to_name AllRead (λ rows are read. subst (λ r. AllThere [] [] r) (sym are) (λ l h. h, λ l h. h, λ n h. absurd h, λ s h. absurd h))
      (λ l ls s ih. read-line l ls [] s ih)
      (λ n ns s ih. read-name n [] ns s ih)
      (λ l n ls ns s e ih. read-line l ls (n ∷ ns) s ih)
      (λ l n ls ns s e ih. read-both l n ls ns s ih)
      (λ l n ls ns s e ih. read-name n (l ∷ ls) ns s ih)

-- ---- the meaning of a good audit

module _ {S F W E : Type 0} (files : Files S F) (rules : StreamRules W E) (options : Options) (lost : List (List ℕ)) (list : List ℕ) (old new : Streams W E) where
  abbrev good : Effect W E
  good = effect_of rules old new (Ok true)

  abbrev Agree : List Item → List (List ℕ) → Type 0
  Agree lines names =
      ((line : Item) → IsAmong lines line → (name : List ℕ) × IsAmong names name × IsFileOf files line name)
      × ((name : List ℕ) → IsAmong names name → (line : Item) × IsAmong lines line × IsFileOf files line name)

  file-of : (line s : Item) → (path_of line ≡ path_of s) → (kind_of line ≡ kind_of s) → (value_of line ≡ value_of s)
      → IsValueOf files (kind_of s) (name_of s) (value_of s) → IsFileOf files line (name_of s)
  file-of line s path kind value is = (
    path,
    subst (λ k. IsValueOf files k (name_of s) (value_of line)) (sym kind)
        (subst (λ v. IsValueOf files (kind_of s) (name_of s) v) (sym value) is),
  )

  sides-agree : (lines : List Item) (requested : List (List ℕ)) → AuditsSides files good options lost lines requested
      → Agree lines requested
  sides-agree lines requested (inr fails) = let no = fails.3 in let none : ⊥ = cc in absurd none
  sides-agree lines requested (inl (rows, found, are, message, audit, prints, answers)) =
      let both = both-true (are_same found) (has_none (lost ++ unread_in rows)) (sym answers) in
      let there = all-there files _ lost lines requested rows are (none-of lost (unread_in rows) (nothing _ both.1)).1 in
      let equal = same_means_equal (kept_in rows) _ found audit (all-same found both.0) in (
        λ line h.
            let beside = equal.0 line (there.0 line h) in
            let seen = there.3 beside.0 beside.1 in
            (name_of beside.0, seen.0, file-of line beside.0 beside.2.0 beside.2.1.0 beside.2.1.1 seen.1),
        λ name h.
            let given = there.2 name h in
            let beside = equal.1 given.0 given.1 in
            let seen = there.3 given.0 given.1 in (
              beside.0,
              there.1 beside.0 beside.1,
              subst (IsFileOf files beside.0) given.2 (file-of beside.0 given.0 beside.2.0 beside.2.1.0 beside.2.1.1 seen.1),
            ),
      )

  unless-agree : (lines : List Item) (requested : List (List ℕ)) (first second : Option (List ℕ))
      → OnlyReportsDuplicate good list first second (AuditsSides files good options lost lines requested) → Agree lines requested
  unless-agree lines requested None None audits = sides-agree lines requested audits
  unless-agree lines requested None (Some name) reports = let no = reports.0 in let none : ⊥ = cc in absurd none
  unless-agree lines requested (Some name) second reports = let no = reports.0 in let none : ⊥ = cc in absurd none

  items-agree : (entries : List Item) (names : List (List ℕ)) → AuditsItems files good options lost list entries names
      → Agree entries names
  items-agree entries names (inr fails) = let no = fails.0 in let none : ⊥ = cc in absurd none
  items-agree entries names (inl (lines, requested, order, order', audits)) =
      let agree = unless-agree lines requested _ _ audits in (
        λ line h.
            let there = agree.0 line (among_permutation entries lines line order.0 h) in
            (there.0, among_permutation requested names there.0 (IsPermutation-sym names requested order'.0) there.1, there.2),
        λ name h.
            let there = agree.1 name (among_permutation names requested name order'.0 h) in
            (there.0, among_permutation lines entries there.0 (IsPermutation-sym entries lines order.0) there.1, there.2),
      )

pub audit-means-equal : {S F W E : Type 0} (opening : StoreRules S F) (reading : SourceRules F) (rules : StreamRules W E)
    → AuditMeansEqual opening reading rules
audit-means-equal opening reading rules store options list lost names old new (start, begun, inl (entries, says, audits)) =
    let agree = items-agree (files_of opening reading store) rules options lost list start new entries names audits in
    (entries, says, agree.0, agree.1)
audit-means-equal opening reading rules store options list lost names old new (start, begun, inr (inl (text, why, reports))) =
    let no = reports.0 in let none : ⊥ = cc in absurd none
audit-means-equal opening reading rules store options list lost names old new (start, begun, inr (inr fails)) =
    let no = fails.0 in let none : ⊥ = cc in absurd none
