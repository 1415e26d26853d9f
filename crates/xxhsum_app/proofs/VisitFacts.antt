-- Lemmas on walks after one more name, and on the files that walks find.
use Rattle.std.proofs.Common.{◌≡◌, ◌⊎◌, ℕ, ◌+◌, ◌<◌, Bool, true, false, List, [], ◌∷◌, ◌++◌, map, get_or, length, refl, sym, ap, subst, inl, inr, Ok, Err, arith, ◌∙◌, IsSorted, is_lt, nat_cmp, reverse, Result}
use Rattle.xxhsum_app.specs.Messages.{Messages, Reports}
use Rattle.xxhsum_app.proofs.Prelude.{File, Folder, IsAmong, IsPermutation-sym, IsPermutation-trans, MatchResult, Other, OutOfMemory, PathKind, Stop, Unknown, get_or-map, length-map, reverse-append, slice_cmp}
use Rattle.xxhsum_app.specs.Walk.{Closed, HasKind, IsIn, IsSeen, Leaf, Lost, Opened, Passed, Place, Seen, SeesOne, Tree, Visits, WalkState, below, below_of, closed_of, file_of, files_in, given, lost_in, lost_of, with_slash}
use Rattle.xxhsum_app.specs.WalkLaws.{FindsEachFile, FindsNoOther, IsSteady, LeadsTo}
use Rattle.xxhsum_audit.proofs.AmongFacts.{among_either, among_left, among_permutation, among_right}

-- Lemma: the last element of a list is the first of its reverse.
pub reverse-push : {X : Type 0} (xs : List X) (x : X) → reverse (xs ++ x ∷ []) ≡ x ∷ reverse xs
reverse-push xs x = reverse-append xs (x ∷ [])

-- Lemma: the place of a name in a list is among the places of all its names.
among-places : (at : List ℕ → Place) (names : List (List ℕ)) (name : List ℕ) → IsAmong names name → IsAmong (map at names) (at name)
among-places at [] name h = absurd h
among-places at (n ∷ names) name (inl e) = inl (ap at e)
among-places at (n ∷ names) name (inr h) = inr (among-places at names name h)

pub from-places : (at : List ℕ → Place) (names : List (List ℕ)) (place : Place) → IsAmong (map at names) place
    → (name : List ℕ) × IsAmong names name × (at name ≡ place)
from-places at [] place h = absurd h
from-places at (n ∷ names) place (inl e) = (n, inl refl, e)
from-places at (n ∷ names) place (inr h) =
    let there = from-places at names place h in
    (there.0, inr there.1, there.2)

-- Lemma: an empty list has only empty parts.
pub none-of : {X : Type 0} (xs ys : List X) → xs ++ ys ≡ [] → (xs ≡ []) × (ys ≡ [])
none-of [] ys e = (refl, e)
none-of (x ∷ xs) ys e = let no : ⊥ = cc in absurd no

either-way : {A B C : Type 0} → A ⊎ B → (A → C) → (B → C) → C
either-way (inl a) left right = left a
either-way (inr b) left right = right b

module _ (tree : Tree) where
  pub visits-more : (places : List Place) (trace : List Seen) (place : Place) (left : List Place) (seen : Seen) → Visits tree places trace (place ∷ left) → IsSeen tree place seen
      → Visits tree places (trace ++ seen ∷ []) (below_of seen ++ left)
  visits-more places [] place left seen is sees =
      subst (λ ps. Visits tree ps (seen ∷ []) (below_of seen ++ left)) is (sees, refl)
  visits-more [] (s ∷ trace) place left seen is sees = absurd is
  visits-more (p ∷ places) (s ∷ trace) place left seen is sees =
      (is.0, visits-more (below_of s ++ places) trace place left seen is.1 sees)

  pub folder-seen : (place : Place) (seen : Seen) → HasKind tree place.0 place.1 Folder → IsIn tree place.0 seen → IsSeen tree place seen
  folder-seen place (Opened name names) kind is = (kind, is)
  folder-seen place (Closed name why) kind is = (kind, is)
  folder-seen place seen kind is = absurd is

  -- ---- one kind for each place

  kind-once : IsSteady tree → (name : List ℕ) (is_given : Bool) (a b : PathKind) → HasKind tree name is_given a → HasKind tree name is_given b → a ≡ b
  kind-once steady name false a b one other = steady.one_kind name a b one other
  kind-once steady name true File File one other = refl
  kind-once steady name true Folder Folder one other = refl
  kind-once steady name true File Folder one other = let same = steady.one_answer name false true one other in let no : ⊥ = cc in absurd no
  kind-once steady name true Folder File one other = let same = steady.one_answer name true false one other in let no : ⊥ = cc in absurd no
  kind-once steady name true Other b one other = absurd one
  kind-once steady name true a Other one other = absurd other
  kind-once steady name true (Unknown why) b one other = absurd one
  kind-once steady name true a (Unknown why) one other = absurd other

  -- ---- each file

  finds-file : IsSteady tree → (place : Place) (seen : Seen) (file : List ℕ) → IsSeen tree place seen → HasKind tree place.0 place.1 File → file ≡ place.0 → IsAmong (file_of seen) file
  finds-file steady place (Leaf name) file sees kind is = inl (sees.0 ∙ sym is)
  finds-file steady place (Passed name) file sees kind is = let same = kind-once steady place.0 place.1 Other File sees.1 kind in let no : ⊥ = cc in absurd no
  finds-file steady place (Opened name names) file sees kind is = let same = kind-once steady place.0 place.1 Folder File sees.0 kind in let no : ⊥ = cc in absurd no
  finds-file steady place (Closed name why) file sees kind is = let same = kind-once steady place.0 place.1 Folder File sees.0 kind in let no : ⊥ = cc in absurd no
  finds-file steady place (Lost name why) file sees kind is = let same = kind-once steady place.0 place.1 (Unknown why) File sees.1 kind in let no : ⊥ = cc in absurd no

  opens-folder : IsSteady tree → (place : Place) (seen : Seen) (name : List ℕ) (names : List (List ℕ)) → IsSeen tree place seen → lost_of seen ≡ [] → HasKind tree place.0 place.1 Folder
      → tree.holds (with_slash place.0) names → IsAmong names name → IsAmong (below_of seen) (below (with_slash place.0) false name)
  opens-folder steady place (Leaf file) name names sees clear kind holds h = let same = kind-once steady place.0 place.1 File Folder sees.1 kind in let no : ⊥ = cc in absurd no
  opens-folder steady place (Passed other) name names sees clear kind holds h = let same = kind-once steady place.0 place.1 Other Folder sees.1 kind in let no : ⊥ = cc in absurd no
  opens-folder steady place (Closed folder why) name names sees clear kind holds h = let no : ⊥ = cc in absurd no
  opens-folder steady place (Lost other why) name names sees clear kind holds h = let no : ⊥ = cc in absurd no
  opens-folder steady place (Opened folder ordered) name names sees clear kind holds h =
      let found = sees.1.1 in
      let moved = IsPermutation-trans names found.0 ordered (steady.same_names (with_slash place.0) names found.0 holds found.1) found.2.0 in
      subst (λ f. IsAmong (map (below (with_slash f) false) ordered) (below (with_slash place.0) false name)) (sym sees.1.0)
      (among-places (below (with_slash place.0) false) ordered name (among_permutation names ordered name moved h))

  pub finds-each : IsSteady tree → (trace : List Seen) (places : List Place) (place : Place) (behind : List (List ℕ)) (file : List ℕ)
      → Visits tree places trace [] → lost_in trace ≡ [] → IsAmong places place → LeadsTo tree place behind file → IsAmong (files_in trace) file
  finds-each steady [] places place behind file visits clear h leads =
      absurd (subst (λ ps. IsAmong ps place) (sym visits) h)
  finds-each steady (seen ∷ trace) [] place behind file visits clear h leads = absurd h
  finds-each steady (seen ∷ trace) (p ∷ places) place behind file visits clear (inr h) leads =
      among_right (file_of seen) (files_in trace) file
      (finds-each steady trace (below_of seen ++ places) place behind file visits.1 (none-of (lost_of seen) (lost_in trace) clear).1 (among_right (below_of seen) places place h) leads)
  finds-each steady (seen ∷ trace) (p ∷ places) place [] file visits clear (inl e) leads =
      among_left (file_of seen) (files_in trace) file
      (finds-file steady place seen file (subst (λ q. IsSeen tree q seen) e visits.0) leads.1 leads.0)
  finds-each steady (seen ∷ trace) (p ∷ places) place (name ∷ behind) file visits clear (inl e) leads =
      let sees = subst (λ q. IsSeen tree q seen) e visits.0 in
      let opens = none-of (lost_of seen) (lost_in trace) clear in
      let next = below (with_slash place.0) false name in
      among_right (file_of seen) (files_in trace) file
      (finds-each steady trace (below_of seen ++ places) next behind file visits.1 opens.1
      (among_left (below_of seen) places next (opens-folder steady place seen name leads.1.0 sees opens.0 leads.0 leads.1.1 leads.1.2)) leads.2)

  -- ---- no other file

  -- Lemma: a file reached from a place in a folder is reached from the folder.
  leads-in : (place : Place) (seen : Seen) (next : Place) (behind : List (List ℕ)) (file : List ℕ) → IsSeen tree place seen → IsAmong (below_of seen) next → LeadsTo tree next behind file
      → (more : List (List ℕ)) × LeadsTo tree place more file
  leads-in place (Opened folder ordered) next behind file sees h leads =
      let found = sees.1.1 in
      let there = from-places (below (with_slash place.0) false) ordered next (subst (λ f. IsAmong (map (below (with_slash f) false) ordered) next) sees.1.0 h) in
      let held = among_permutation ordered found.0 there.0 (IsPermutation-sym found.0 ordered found.2.0) there.1 in
      (there.0 ∷ behind, (sees.0, (found.0, found.1, held), subst (λ q. LeadsTo tree q behind file) (sym there.2) leads))
  leads-in place seen next behind file sees h leads = absurd h

  pub leads-here : (place : Place) (seen : Seen) (file : List ℕ) → IsSeen tree place seen → IsAmong (file_of seen) file → LeadsTo tree place [] file
  leads-here place (Leaf name) file sees (inl e) = (sym e ∙ sees.0, sees.1)
  leads-here place (Leaf name) file sees (inr h) = absurd h
  leads-here place seen file sees h = absurd h

  finds-later : (p : Place) (seen : Seen) (places : List Place) (file : List ℕ) → IsSeen tree p seen
      → ((place : Place) × (behind : List (List ℕ)) × IsAmong (below_of seen ++ places) place × LeadsTo tree place behind file)
      → (place : Place) × (behind : List (List ℕ)) × IsAmong (p ∷ places) place × LeadsTo tree place behind file
  finds-later p seen places file sees found =
      either-way (among_either (below_of seen) places found.0 found.2)
      (λ inside. let more = leads-in p seen found.0 found.1 file sees inside found.3 in (p, more.0, inl refl, more.1))
      (λ beside. (found.0, found.1, inr beside, found.3))

  pub finds-only : (trace : List Seen) (places left : List Place) (file : List ℕ) → Visits tree places trace left → IsAmong (files_in trace) file
      → (place : Place) × (behind : List (List ℕ)) × IsAmong places place × LeadsTo tree place behind file
  finds-only [] places left file visits h = absurd h
  finds-only (seen ∷ trace) [] left file visits h = absurd visits
  finds-only (seen ∷ trace) (p ∷ places) left file visits h =
      either-way (among_either (file_of seen) (files_in trace) file h) (λ here. (p, [], inl refl, leads-here p seen file visits.0 here))
      (λ later. finds-later p seen places file visits.0 (finds-only trace (below_of seen ++ places) left file visits.1 later))

pub finds-each-file : (tree : Tree) → FindsEachFile tree
finds-each-file tree names trace name behind file steady visits clear h leads =
    finds-each tree steady trace (map given names) (given name) behind file visits clear (among-places given names name h) leads

pub finds-no-other : (tree : Tree) → FindsNoOther tree
finds-no-other tree names trace left file visits h =
    let found = finds-only tree trace (map given names) left file visits h in
    let there = from-places given names found.0 found.2 in
    (there.0, found.1, there.1, subst (λ q. LeadsTo tree q found.1 file) (sym there.2) found.3)

-- ---- sorted names

pub names-sorted : {X : Type 0} (key : X → List ℕ) (xs : List X) → IsSorted (λ a b. slice_cmp nat_cmp (key a) (key b)) xs → IsSorted (slice_cmp nat_cmp) (map key xs)
names-sorted key [] up k d low high = absurd (omega arith)
names-sorted {X} key (x ∷ xs) up k d low high =
    let len = length-map (x ∷ xs) key in
    let first : k < length (x ∷ xs) = omega (arith, len, high) in
    let second : k + 1 < length (x ∷ xs) = omega (arith, len, high) in
    let lt : List ℕ → List ℕ → Bool = λ (a b : List ℕ). is_lt (slice_cmp nat_cmp a b) in
    ap (λ a. lt a (get_or (map key (x ∷ xs)) k d)) (get_or-map key (x ∷ xs) (k + 1) x d second)
    ∙ ap (λ b. lt (key (get_or (x ∷ xs) (k + 1) x)) b) (get_or-map key (x ∷ xs) k x d first)
    ∙ up k x low second

-- ---- one step

pub sees-as : {E : Type 0} (is_seen other : Seen → Type 0) (messages : Messages E) (old new : WalkState) → ((seen : Seen) → is_seen seen → other seen)
    → (result : Result (Unit {0}) Stop) → SeesOne is_seen messages old new result → SeesOne other messages old new result
sees-as is_seen other messages old new more (Ok x) sees = (sees.0, more sees.0 sees.1, sees.2, sees.3, sees.4, sees.5)
sees-as is_seen other messages old new more (Err stop) sees = sees

-- Lemma: a directory or a name that can't be read was added and reported, or memory ran out.
pub sees-lost : {E : Type 0} (is_seen : Seen → Type 0) (messages : Messages E) (old new : WalkState) (seen : Seen) → is_seen seen → new.waiting ≡ below_of seen ++ old.waiting
    → map (λ file. file.items) new.walked.files.items ≡ map (λ file. file.items) old.walked.files.items ++ file_of seen → (result : Result (Unit {0}) Stop)
    → MatchResult result (λ _. (map (λ name. name.items) new.walked.unread.items ≡ map (λ name. name.items) old.walked.unread.items ++ lost_of seen) × Reports messages (closed_of seen))
    (λ stop. (stop ≡ OutOfMemory) × (messages.new ≡ messages.old)) → SeesOne is_seen messages old new result
sees-lost is_seen messages old new seen is waits files (Ok x) match = (seen, is, waits, files, match.0, match.1)
sees-lost is_seen messages old new seen is waits files (Err stop) match = match
