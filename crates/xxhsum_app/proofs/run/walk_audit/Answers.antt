use Rattle.xxhsum_app.proofs.Prelude.{[], ◌∙◌, ◌∷◌, ◌≡◌, List, ListNames, ListNone, end_of, files_of, inl, input_of, length, map, refl, sym}
use Rattle.xxhsum_app.proofs.FindFacts.{found-is}
use Rattle.xxhsum_app.proofs.run.walk_audit.Goals as goal

none-of : {T : Type 0} (items : List T) → length items ≡ 0 → items ≡ []
none-of [] none = refl
none-of (item ∷ items) none = cc

pub returns-then-context : goal.returns-then-context
returns-then-context g c =
    rw (c.in-Some.ensures.cases.0, c.if-context.true) (rw c.deref.ensures.value at c.audit_below.ensures)

pub returns-then-not-are_listed : goal.returns-then-not-are_listed
returns-then-not-are_listed g c =
    rw (c.in-Some.ensures.cases.0, c.if-context.false, sym c.are_listed.ensures ∙ c.if-not-are_listed.true)
    (rw c.deref-then-not-are_listed.ensures.value at c.audit_names.ensures)

pub returns : goal.returns
returns g c =
    let lists = map (λ name. name.items) c.in-Some.rest.now in
    let listed = found-is g.E.Sink (λ all. ListNames (files_of g.S.Store g.S.File.Source c.args.context.now.store.now) (input_of g.R.Source c.args.input) (end_of c.args.context.now.options.names_from) lists (map (λ name. name.items) all.items))
    (ListNone (files_of g.S.Store g.S.File.Source c.args.context.now.store.now) (input_of g.R.Source c.args.input) lists) c.messages-2.result.now c.names_listed.new.err c.in_ok-names.field-0 c.in-Some-2.names c.in-Some-2.is c.in_ok-names.ensures in
    let audits = rw (c.deref-2.ensures.value, c.deref-3.ensures.value, listed.1, c.messages-2.ensures.value) at c.audit_names-2.ensures in
    rw (c.in-Some.ensures.cases.0, c.if-context.false, sym c.are_listed.ensures ∙ c.if-not-are_listed.false)
    (inl (map (λ name. name.items) c.in-Some-2.names.items, listed.0, audits))

pub returns-in_default : goal.returns-in_default
returns-in_default g c =
    rw (none-of c.args.words.now c.in_default.ensures.cases) (refl, refl, rw c.messages.ensures.value at c.eprint.ensures)
