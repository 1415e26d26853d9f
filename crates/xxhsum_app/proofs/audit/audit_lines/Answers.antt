use Rattle.std.proofs.Common.{◌≡◌, ℕ, Bool, true, false, List, Option, Some, None, codes, refl, inl, sym, ap, subst, ◌∙◌}
use Rattle.xxhsum_app.specs.Prelude.{Eprints, SinkRules, one_line}
use Rattle.xxhsum_app.proofs.Prelude.{IsOrder, Item, ReportsDuplicate, Rises, compare_lines, compare_paths, duplicate_text, find_duplicate, items_of, map-id, name_of, names_of, rank_lines, rank_names, rises, texts_of}
use Rattle.xxhsum_app.proofs.audit.audit_lines.Goals as goal

-- Lemmas on two names with one path: one of them is reported, or there are none.

none-twice : {E : Type 0} (reporting : SinkRules E) (among : List ℕ) (duplicate : Option (List ℕ)) (old new : E) (answer : Bool) → ReportsDuplicate reporting among duplicate old new answer → answer ≡ false → (duplicate ≡ None) × (new ≡ old)
none-twice reporting among None old new answer message is = (refl, message.1)
none-twice reporting among (Some name) old new answer message is = let yes = message.0 in let no : ⊥ = cc in absurd no

some-twice : {E : Type 0} (reporting : SinkRules E) (among : List ℕ) (duplicate : Option (List ℕ)) (old new : E) (answer : Bool) → ReportsDuplicate reporting among duplicate old new answer → answer ≡ true
    → (name : List ℕ) × (duplicate ≡ Some name) × Eprints reporting (one_line (duplicate_text among name)) old new
some-twice reporting among None old new answer message is = let never = message.0 in let no : ⊥ = cc in absurd no
some-twice reporting among (Some name) old new answer message is = (name, refl, message.1)

-- Lemma: sorted lines rise if no two of them have one path.
lines-rise : (entries lines : List Item) → IsOrder rank_lines entries lines → find_duplicate (names_of lines) ≡ None → Rises compare_lines lines
lines-rise entries lines order none = rises name_of lines order.1 none

names-rise : (names requested : List (List ℕ)) → IsOrder rank_names names requested → find_duplicate requested ≡ None → Rises compare_paths requested
names-rise names requested order none = rises (λ (name : List ℕ). name) requested order.1 (subst (λ all. find_duplicate all ≡ None) (sym (map-id requested)) none)

pub audit_sides-requires-clause-lines : goal.audit_sides-requires-clause-lines
audit_sides-requires-clause-lines g c =
    let lines = items_of c.in_ok-lines.lines.items in
    let message = subst (λ names. ReportsDuplicate g.E.Sink c.args.list.now (find_duplicate names) c.messages-err.result.now c.eprint_duplicate.new.err c.eprint_duplicate.result) (ap texts_of c.deref-2.ensures.value ∙ c.in_ok-listed.ensures ∙ ap (λ l. names_of (items_of l)) c.deref.ensures.value) c.eprint_duplicate.ensures in
    let none = none-twice g.E.Sink c.args.list.now (find_duplicate (names_of lines)) c.messages-err.result.now c.eprint_duplicate.new.err c.eprint_duplicate.result message c.if-eprint_duplicate.false in
    subst (λ all. Rises compare_lines (items_of all)) (sym c.deref-5.ensures.value) (lines-rise _ lines c.in_ok-lines.ensures none.0)

pub audit_sides-requires-clause-names : goal.audit_sides-requires-clause-names
audit_sides-requires-clause-names g c =
    let requested = texts_of c.in_ok-requested.requested.items in
    let more = subst (λ names. ReportsDuplicate g.E.Sink (codes "Error") (find_duplicate (texts_of names)) c.eprint_duplicate.new.err c.eprint_duplicate-2.new.err c.eprint_duplicate-2.result) c.deref-3.ensures.value c.eprint_duplicate-2.ensures in
    let none = none-twice g.E.Sink (codes "Error") (find_duplicate requested) c.eprint_duplicate.new.err c.eprint_duplicate-2.new.err c.eprint_duplicate-2.result more c.if-eprint_duplicate-2.false in
    subst (λ all. Rises compare_paths (texts_of all)) (sym c.deref-6.ensures.value) (names-rise _ requested c.in_ok-requested.ensures none.0)

pub returns-then-eprint_duplicate : goal.returns-then-eprint_duplicate
returns-then-eprint_duplicate g c =
    let lines = items_of c.in_ok-lines.lines.items in
    let requested = texts_of c.in_ok-requested.requested.items in
    let message = subst (λ names. ReportsDuplicate g.E.Sink c.args.list.now (find_duplicate names) c.messages-err.result.now c.eprint_duplicate.new.err c.eprint_duplicate.result) (ap texts_of c.deref-2.ensures.value ∙ c.in_ok-listed.ensures ∙ ap (λ l. names_of (items_of l)) c.deref.ensures.value) c.eprint_duplicate.ensures in
    let twice = some-twice g.E.Sink c.args.list.now (find_duplicate (names_of lines)) c.messages-err.result.now c.eprint_duplicate.new.err c.eprint_duplicate.result message c.if-eprint_duplicate.true in
    inl (lines, requested, c.in_ok-lines.ensures, c.in_ok-requested.ensures, rw twice.1 (refl, refl, subst (λ e. Eprints g.E.Sink (one_line (duplicate_text c.args.list.now twice.0)) e c.eprint_duplicate.new.err) c.messages-err.ensures.value twice.2))

pub returns-then-eprint_duplicate-2 : goal.returns-then-eprint_duplicate-2
returns-then-eprint_duplicate-2 g c =
    let lines = items_of c.in_ok-lines.lines.items in
    let requested = texts_of c.in_ok-requested.requested.items in
    let message = subst (λ names. ReportsDuplicate g.E.Sink c.args.list.now (find_duplicate names) c.messages-err.result.now c.eprint_duplicate.new.err c.eprint_duplicate.result) (ap texts_of c.deref-2.ensures.value ∙ c.in_ok-listed.ensures ∙ ap (λ l. names_of (items_of l)) c.deref.ensures.value) c.eprint_duplicate.ensures in
    let none = none-twice g.E.Sink c.args.list.now (find_duplicate (names_of lines)) c.messages-err.result.now c.eprint_duplicate.new.err c.eprint_duplicate.result message c.if-eprint_duplicate.false in
    let more = subst (λ names. ReportsDuplicate g.E.Sink (codes "Error") (find_duplicate (texts_of names)) c.eprint_duplicate.new.err c.eprint_duplicate-2.new.err c.eprint_duplicate-2.result) c.deref-3.ensures.value c.eprint_duplicate-2.ensures in
    let twice = some-twice g.E.Sink (codes "Error") (find_duplicate requested) c.eprint_duplicate.new.err c.eprint_duplicate-2.new.err c.eprint_duplicate-2.result more c.if-eprint_duplicate-2.true in
    inl (lines, requested, c.in_ok-lines.ensures, c.in_ok-requested.ensures, rw (none.0, twice.1) (refl, refl, subst (λ e. Eprints g.E.Sink (one_line (duplicate_text (codes "Error") twice.0)) e c.eprint_duplicate-2.new.err) (none.1 ∙ c.messages-err.ensures.value) twice.2))

pub returns : goal.returns
returns g c =
    let lines = items_of c.in_ok-lines.lines.items in
    let requested = texts_of c.in_ok-requested.requested.items in
    let message = subst (λ names. ReportsDuplicate g.E.Sink c.args.list.now (find_duplicate names) c.messages-err.result.now c.eprint_duplicate.new.err c.eprint_duplicate.result) (ap texts_of c.deref-2.ensures.value ∙ c.in_ok-listed.ensures ∙ ap (λ l. names_of (items_of l)) c.deref.ensures.value) c.eprint_duplicate.ensures in
    let none = none-twice g.E.Sink c.args.list.now (find_duplicate (names_of lines)) c.messages-err.result.now c.eprint_duplicate.new.err c.eprint_duplicate.result message c.if-eprint_duplicate.false in
    let more = subst (λ names. ReportsDuplicate g.E.Sink (codes "Error") (find_duplicate (texts_of names)) c.eprint_duplicate.new.err c.eprint_duplicate-2.new.err c.eprint_duplicate-2.result) c.deref-3.ensures.value c.eprint_duplicate-2.ensures in
    let none-2 = none-twice g.E.Sink (codes "Error") (find_duplicate requested) c.eprint_duplicate.new.err c.eprint_duplicate-2.new.err c.eprint_duplicate-2.result more c.if-eprint_duplicate-2.false in
    let sides = rw (c.deref-4.ensures.value, c.in_ok-lost.ensures, c.deref-5.ensures.value, c.deref-6.ensures.value, none-2.1, none.1, c.messages-err.ensures.value) at c.audit_sides.ensures in
    inl (lines, requested, c.in_ok-lines.ensures, c.in_ok-requested.ensures, rw (none.0, none-2.0) sides)
