use Rattle.xxhsum_app.proofs.Prelude.{[], ◌++◌, ◌+◌, ◌∙◌, ◌∷◌, EachHas-push, GivesText, HasNoText, ap, drop, map, map-append, map-more, map-split, subst, sym, take}
use Rattle.xxhsum_app.specs.Prelude.{EachHas, Eprints, files_of, one_line}
use Rattle.xxhsum_app.proofs.FindFacts.{found-is, lost-is}
use Rattle.xxhsum_app.proofs.texts.texts_of_files.Goals as goal

pub loop-name-preserved : goal.loop-name-preserved
loop-name-preserved g c =
    let so_far = c.loop-name.invariant in
    let names = c.args.names.now in
    let k = c.loop-name.name-index in
    let text = c.in-Some.text in
    let has = GivesText (files_of g.S.Store g.S.File.Source c.args.context.now.store.now) in
    let found = found-is g.E.Sink (λ text. has c.deref.result.now text.items) (HasNoText (files_of g.S.Store g.S.File.Source c.args.context.now.store.now) c.deref.result.now) c.loop-name.err c.text_named.new.err c.in_ok-text.field-0 text c.in-Some.is c.in_ok-text.ensures in
    let longer = map-more (λ name. name.items) names k c.name-item.result c.loop-name-test.true c.name-item.is in
    let each = EachHas-push has (map (λ name. name.items) (take k names)) (map (λ text. text.items) c.loop-name.texts.items) c.name-item.result.items text.items so_far.each
    (subst (λ name. has name text.items) c.deref.ensures.value found.0) in
    let texts = ap (λ all. map (λ text. text.items) all) c.in_ok-add_text.ensures ∙ map-append (λ text. text.items) c.loop-name.texts.items (text ∷ []) in
    record {
      each = subst (λ all. EachHas has (map (λ name. name.items) (take (k + 1) names)) all) (sym texts)
          (subst (λ all. EachHas has all (map (λ text. text.items) c.loop-name.texts.items ++ text.items ∷ [])) (sym longer) each);
      silent = found.1 ∙ so_far.silent;
    }

pub returns-in_default : goal.returns-in_default
returns-in_default g c =
    let so_far = c.loop-name.invariant in
    let names = c.args.names.now in
    let k = c.loop-name.name-index in
    let store = c.args.context.now.store.now in
    let before = map (λ name. name.items) (take k names) in
    let behind = map (λ name. name.items) (drop (k + 1) names) in
    let texts = map (λ text. text.items) c.loop-name.texts.items in
    let split = map-split (λ name. name.items) names k c.name-item.result c.loop-name-test.true c.name-item.is in
    let lost = lost-is g.E.Sink (λ text. GivesText (files_of g.S.Store g.S.File.Source store) c.deref.result.now text.items) (HasNoText (files_of g.S.Store g.S.File.Source store) c.deref.result.now) c.loop-name.err c.text_named.new.err c.in_ok-text.field-0 c.in_default.is c.in_ok-text.ensures in
    let why = subst (λ name. HasNoText (files_of g.S.Store g.S.File.Source store) name lost.0) c.deref.ensures.value lost.1 in
    (lost.0, (before, behind, texts, c.name-item.result.items, split, so_far.each, why), subst (λ e. Eprints g.E.Sink (one_line lost.0) e c.text_named.new.err) so_far.silent lost.2)
