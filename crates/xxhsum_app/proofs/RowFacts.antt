-- Lemmas on rows and their results, after one more row.
use Rattle.std.proofs.Common.{◌≡◌, ℕ, Bor, false, List, [], ◌∷◌, ◌++◌, append-nil, refl, sym, ap, subst, inl, ◌∙◌, Ok, Err, IsErr, MatchResult, Result, flat_map}
use Rattle.xxhsum_app.specs.Messages.{Messages, Reports, effect_messages}
use Rattle.xxhsum_app.proofs.Prelude.{AddsRow, AllocError, Compared, DigestsRows, Effect, FileDigest, Grows, PrintsReport, Side, Verdict, by_path, cond-false, flat_map-append, is_digested, map-append, met_is}
use Rattle.xxhsum_app.specs.Prelude.{Digested, Files, IsDirectory, Kind, Options, Outcome, Unread}
use Rattle.xxhsum_app.proofs.JoinFacts.{is-audit}
use Rattle.xxhsum_app.specs.Audits.{AnswersAudit, AuditsSides}
use Rattle.xxhsum_app.specs.Rows.{AreRows, IsRow, Row, digest_of, first_in, first_of, kept_in, kind_of_new, row_messages, seen_in, unless_digested}
use Rattle.xxhsum_audit.specs.Audit.{HasMoves, IsAudit, matched_in, missing_in, new_in}
use Rattle.xxhsum_audit.specs.Found.{Found, Missing, New, found_of, founds_of, met}
use Rattle.xxhsum_audit.specs.Item.{Item, item_of, items_of, texts_of}
use Rattle.xxhsum_audit.specs.Order.{Rises, compare_lines, compare_paths}

pub rows-more : {S F : Type 0} (files : Files S F) (kind : Kind) (lost : List (List ℕ)) (sides : List (Side Item (List ℕ))) (rows : List Row) (side : Side Item (List ℕ)) (row : Row) → AreRows files kind lost sides rows → IsRow files kind lost side row → AreRows files kind lost (sides ++ side ∷ []) (rows ++ row ∷ [])
rows-more files kind lost [] rows side row none is =
    (row, [], ap (λ x. x ++ row ∷ []) none, is, refl)
rows-more files kind lost (s ∷ sides) rows side row are is = (
  are.0,
  are.1 ++ row ∷ [],
  ap (λ x. x ++ row ∷ []) are.2,
  are.3,
  rows-more files kind lost sides are.1 side row are.4 is,
)

-- Lemma: one more element appends its result.
pub flat-push : {X A : Type 0} (f : X → List A) (xs : List X) (x : X) → flat_map f (xs ++ x ∷ []) ≡ flat_map f xs ++ f x
flat-push f xs x = flat_map-append f xs (x ∷ []) ∙ ap (λ more. flat_map f xs ++ more) (append-nil (f x))

-- Lemma: one more row appends its results.
pub first-push : {A : Type 0} (of : Found → List A) (kind : Kind) (rows : List Row) (row : Row) → flat_map of (first_in kind (rows ++ row ∷ [])) ≡ flat_map of (first_in kind rows) ++ flat_map of (first_of kind row)
first-push of kind rows row =
    ap (flat_map of) (flat-push (first_of kind) rows row) ∙ flat_map-append of (first_in kind rows) (first_of kind row)

-- ---- one side

pub not-digested : (kind : Kind) (name : List ℕ) (outcome : Outcome) → is_digested outcome ≡ false → digest_of kind name outcome ≡ []
not-digested kind name (Digested value) is = let no : ⊥ = cc in absurd no
not-digested kind name IsDirectory is = refl
not-digested kind name (Unread reason) is = refl

pub unless-lacking : (name : List ℕ) (outcome : Outcome) → is_digested outcome ≡ false → unless_digested name outcome ≡ name ∷ []
unless-lacking name outcome is = cond-false (is_digested outcome) [] (name ∷ []) is

-- Lemma: a line without a name adds a missing line.
pub grows-removed : (old new : Compared) (line : FileDigest) → new.removed.items ≡ old.removed.items ++ line ∷ [] → new.matched ≡ old.matched → new.added ≡ old.added → new.unread ≡ old.unread
    → Grows old new (Missing (item_of line) ∷ []) []
grows-removed old new line more matched added unread = (
  ap (λ x. founds_of x.items) matched ∙ sym (append-nil (founds_of old.matched.items)),
  ap items_of more ∙ map-append item_of old.removed.items (line ∷ []),
  ap (λ x. items_of x.items) added ∙ sym (append-nil (items_of old.added.items)),
  ap (λ x. texts_of x.items) unread ∙ sym (append-nil (texts_of old.unread.items)),
)

-- Lemma: a name without a line adds a new name.
pub grows-added : (old new : Compared) (one : FileDigest) (item : Item) → item_of one ≡ item → new.added.items ≡ old.added.items ++ one ∷ [] → new.matched ≡ old.matched → new.removed ≡ old.removed → new.unread ≡ old.unread
    → Grows old new (New item ∷ []) []
grows-added old new one item is more matched removed unread = (
  ap (λ x. founds_of x.items) matched ∙ sym (append-nil (founds_of old.matched.items)),
  ap (λ x. items_of x.items) removed ∙ sym (append-nil (items_of old.removed.items)),
  ap items_of more ∙ map-append item_of old.added.items (one ∷ []) ∙ ap (λ x. items_of old.added.items ++ x ∷ []) is,
  ap (λ x. texts_of x.items) unread ∙ sym (append-nil (texts_of old.unread.items)),
)

-- Lemma: a line and its name add their verdict.
pub grows-met : (old new : Compared) (verdict : Verdict) (line item : Item) → found_of verdict ≡ met line item → new.matched.items ≡ old.matched.items ++ verdict ∷ []
    → new.removed ≡ old.removed → new.added ≡ old.added → new.unread ≡ old.unread
    → Grows old new (met line item ∷ []) []
grows-met old new verdict line item is more removed added unread = (
  ap founds_of more ∙ map-append found_of old.matched.items (verdict ∷ []) ∙ ap (λ x. founds_of old.matched.items ++ x ∷ []) is
      ∙ ap (λ x. founds_of old.matched.items ++ x) (sym (met_is (λ f. matched_in (f ∷ []) ≡ f ∷ []) line item (λ e. refl) (λ e. refl))),
  ap (λ x. items_of x.items) removed ∙ sym (append-nil (items_of old.removed.items))
      ∙ ap (λ x. items_of old.removed.items ++ x) (sym (met_is (λ f. missing_in (f ∷ []) ≡ []) line item (λ e. refl) (λ e. refl))),
  ap (λ x. items_of x.items) added ∙ sym (append-nil (items_of old.added.items))
      ∙ ap (λ x. items_of old.added.items ++ x) (sym (met_is (λ f. new_in (f ∷ []) ≡ []) line item (λ e. refl) (λ e. refl))),
  ap (λ x. texts_of x.items) unread ∙ sym (append-nil (texts_of old.unread.items)),
)

-- Lemma: a name without a digest adds no result, and is unreadable.
pub grows-unread : (old new : Compared) (name : Bor (List ℕ)) (found : List Found) (unread : List (List ℕ)) → found ≡ [] → unread ≡ name.now ∷ [] → new.unread.items ≡ old.unread.items ++ name ∷ []
    → new.matched ≡ old.matched → new.removed ≡ old.removed → new.added ≡ old.added → Grows old new found unread
grows-unread old new name found unread none is more matched removed added =
    subst (λ f. Grows old new f unread) (sym none) (subst (λ u. Grows old new [] u) (sym is) (
      ap (λ x. founds_of x.items) matched ∙ sym (append-nil (founds_of old.matched.items)),
      ap (λ x. items_of x.items) removed ∙ sym (append-nil (items_of old.removed.items)),
      ap (λ x. items_of x.items) added ∙ sym (append-nil (items_of old.added.items)),
      ap texts_of more ∙ map-append (λ (text : Bor (List ℕ)). text.now) old.unread.items (name ∷ []),
    ))

-- ---- failed allocations

pub fails-rows : {T : Type 0} (is : T → Type 0) (fails : Type 0) (result : Result T AllocError) → IsErr result → fails → MatchResult result is (λ _. fails)
fails-rows is fails (Ok x) err fact = let no : ⊥ = cc in absurd no
fails-rows is fails (Err e) err fact = fact

pub fails-row : {E : Type 0} (messages : Messages E) (is_row : Row → Type 0) (kind : Kind) (old new : Compared) (result : Result (Unit {0}) AllocError) → IsErr result → (row : Row) → is_row row
    → Reports messages (row_messages row) → AddsRow messages is_row kind old new result
fails-row messages is_row kind old new (Ok x) err row is reports = let no : ⊥ = cc in absurd no
fails-row messages is_row kind old new (Err e) err row is reports = (row, is, reports)

-- ---- an audit of all rows

pub says-audit : {S F W E : Type 0} (files : Files S F) (effect : Effect W E) (options : Options) (lost : List (List ℕ)) (lines : List Item) (names : List (List ℕ)) (kind : Kind) (compared : Compared) (found : List Found)
    → Rises compare_lines lines → Rises compare_paths names → kind ≡ kind_of_new options.kind lines
    → DigestsRows files (effect_messages effect) kind lost (by_path lines names) compared
    → HasMoves (founds_of compared.matched.items) (items_of compared.removed.items) (items_of compared.added.items) found
    → PrintsReport effect.rules.writing options found (texts_of compared.unread.items) effect.old.out effect.new.out effect.result
    → AnswersAudit found (texts_of compared.unread.items) effect.result → AuditsSides files effect options lost lines names
says-audit files effect options lost lines names kind compared found up up' kinds digests moves prints answers =
    let rows = digests.0 in
    let holds = digests.2 in
    let moved = subst (λ s. HasMoves s (missing_in (first_in kind rows)) (new_in (first_in kind rows)) found) holds.matched
    (subst (λ g. HasMoves (founds_of compared.matched.items) g (new_in (first_in kind rows)) found) holds.removed
    (subst (λ c. HasMoves (founds_of compared.matched.items) (items_of compared.removed.items) c found) holds.added moves)) in
    let audit = is-audit files kind lost lines names rows found up up' digests.1 moved in
    inl (
      rows,
      found,
      subst (λ k. AreRows files k lost (by_path lines names) rows) kinds digests.1,
      digests.3,
      subst (λ k. IsAudit (kept_in rows) (seen_in k rows) found) kinds audit,
      subst (λ u. PrintsReport effect.rules.writing options found u effect.old.out effect.new.out effect.result) holds.unread prints,
      subst (λ u. AnswersAudit found u effect.result) holds.unread answers,
    )
