use Rattle.xxhsum_app.specs.Messages.{messages_of}
use Rattle.xxhsum_app.proofs.Prelude.{◌∙◌, Added, AddsRow, Compared, IsRow, Met, New, Ok, Removed, Says, ap, files_of, is_hidden, item_of, map, met, name_of, path_side, refl, reports-nothing, subst, sym, texts_of}
use Rattle.xxhsum_app.proofs.RowFacts.{fails-row, grows-added, grows-met, grows-unread, not-digested, unless-lacking}
use Rattle.xxhsum_program.specs.declared.outcome.Outcome.TheVariants.{Digested}
use Rattle.xxhsum_app.proofs.digests.add_side.Goals as goal

pub returns-in_ok-add_line-in-Line : goal.returns-in_ok-add_line-in-Line
returns-in_ok-add_line-in-Line g c =
    let old = c.args.compared.now in
    let item = item_of c.in-Line.line in
    subst (λ side. AddsRow (messages_of g.E.Sink c.args.err.now c.args.err.now) (IsRow (files_of g.S.Store g.S.File.Source c.args.context.now.store.now) c.args.kind (texts_of c.args.lost.now) (path_side side)) c.args.kind old c.add_line.new.compared (Ok tt)) (sym c.in-Line.is)
    (Removed item (is_hidden (texts_of c.args.lost.now) (name_of item)), refl, c.in_ok-add_line-in-Line.ensures c.args.kind, reports-nothing g.E.Sink c.args.err.now)

pub returns-in_err-add_line-in-Line : goal.returns-in_err-add_line-in-Line
returns-in_err-add_line-in-Line g c =
    let item = item_of c.in-Line.line in
    fails-row (messages_of g.E.Sink c.args.err.now c.args.err.now) (IsRow (files_of g.S.Store g.S.File.Source c.args.context.now.store.now) c.args.kind (texts_of c.args.lost.now) (path_side c.args.side)) c.args.kind c.args.compared.now c.add_line.new.compared c.from_residual.result c.from_residual.ensures.0 (Removed item (is_hidden (texts_of c.args.lost.now) (name_of item)))
    (subst (λ side. (IsRow (files_of g.S.Store g.S.File.Source c.args.context.now.store.now) c.args.kind (texts_of c.args.lost.now) (path_side side)) (Removed item (is_hidden (texts_of c.args.lost.now) (name_of item)))) (sym c.in-Line.is) refl) (reports-nothing g.E.Sink c.args.err.now)

pub returns-in_ok-push-in-Some : goal.returns-in_ok-push-in-Some
returns-in_ok-push-in-Some g c =
    let name = c.in-Name.name.now in
    let found = c.in-Some.ensures in
    let old = c.args.compared.now in
    let new : Compared = record { matched = old.matched; removed = old.removed; added = c.push.new.self; unread = old.unread } in
    subst (λ side. AddsRow (messages_of g.E.Sink c.args.err.now c.digest_name.new.err) (IsRow (files_of g.S.Store g.S.File.Source c.args.context.now.store.now) c.args.kind (texts_of c.args.lost.now) (path_side side)) c.args.kind old new (Ok tt)) (sym c.in-Name.is)
    (Added name (Digested found.0), (Digested found.0, refl, found.2), grows-added old new c.in-Some.found (Says name c.args.kind found.0) found.1 c.in_ok-push-in-Some.ensures.items refl refl refl, found.3)

pub returns-in_err-push-in-Some : goal.returns-in_err-push-in-Some
returns-in_err-push-in-Some g c =
    let name = c.in-Name.name.now in
    let found = c.in-Some.ensures in
    fails-row (messages_of g.E.Sink c.args.err.now c.digest_name.new.err) (IsRow (files_of g.S.Store g.S.File.Source c.args.context.now.store.now) c.args.kind (texts_of c.args.lost.now) (path_side c.args.side)) c.args.kind c.args.compared.now (record { matched = c.args.compared.now.matched; removed = c.args.compared.now.removed; added = c.push.new.self; unread = c.args.compared.now.unread }) c.from_residual-in_err-push-in-Some.result c.from_residual-in_err-push-in-Some.ensures.0 (Added name (Digested found.0))
    (subst (λ side. (IsRow (files_of g.S.Store g.S.File.Source c.args.context.now.store.now) c.args.kind (texts_of c.args.lost.now) (path_side side)) (Added name (Digested found.0))) (sym c.in-Name.is) (Digested found.0, refl, found.2)) found.3

pub returns-in_ok-push-in-None : goal.returns-in_ok-push-in-None
returns-in_ok-push-in-None g c =
    let name = c.in-Name.name.now in
    let lost = c.in-None.ensures in
    let old = c.args.compared.now in
    let new : Compared = record { matched = old.matched; removed = old.removed; added = old.added; unread = c.push-in-None.new.self } in
    subst (λ side. AddsRow (messages_of g.E.Sink c.args.err.now c.digest_name.new.err) (IsRow (files_of g.S.Store g.S.File.Source c.args.context.now.store.now) c.args.kind (texts_of c.args.lost.now) (path_side side)) c.args.kind old new (Ok tt)) (sym c.in-Name.is)
    (Added name lost.0, (lost.0, refl, lost.2), grows-unread old new c.in-Name.name _ _ (ap (map New) (not-digested c.args.kind name lost.0 lost.1)) (unless-lacking name lost.0 lost.1) c.in_ok-push-in-None.ensures.items refl refl refl, lost.3)

pub returns-in_err-push-in-None : goal.returns-in_err-push-in-None
returns-in_err-push-in-None g c =
    let name = c.in-Name.name.now in
    let lost = c.in-None.ensures in
    fails-row (messages_of g.E.Sink c.args.err.now c.digest_name.new.err) (IsRow (files_of g.S.Store g.S.File.Source c.args.context.now.store.now) c.args.kind (texts_of c.args.lost.now) (path_side c.args.side)) c.args.kind c.args.compared.now (record { matched = c.args.compared.now.matched; removed = c.args.compared.now.removed; added = c.args.compared.now.added; unread = c.push-in-None.new.self }) c.from_residual-in_err-push-in-None.result c.from_residual-in_err-push-in-None.ensures.0 (Added name lost.0)
    (subst (λ side. (IsRow (files_of g.S.Store g.S.File.Source c.args.context.now.store.now) c.args.kind (texts_of c.args.lost.now) (path_side side)) (Added name lost.0)) (sym c.in-Name.is) (lost.0, refl, lost.2)) lost.3

pub returns-in_ok-push-in-Some-digest_name : goal.returns-in_ok-push-in-Some-digest_name
returns-in_ok-push-in-Some-digest_name g c =
    let name = c.in-Both.name.now in
    let line = item_of c.in-Both.line in
    let found = c.in-Some-digest_name.ensures in
    let old = c.args.compared.now in
    let new : Compared = record { matched = c.push-in-Some-digest_name.new.self; removed = old.removed; added = old.added; unread = old.unread } in
    subst (λ side. AddsRow (messages_of g.E.Sink c.args.err.now c.digest_name-in-Both.new.err) (IsRow (files_of g.S.Store g.S.File.Source c.args.context.now.store.now) c.args.kind (texts_of c.args.lost.now) (path_side side)) c.args.kind old new (Ok tt)) (sym c.in-Both.is)
    (Met line name (Digested found.0), (Digested found.0, refl, found.2), grows-met old new c.met.result line (Says name c.in-Both.line.kind found.0) (c.met.ensures ∙ ap (met line) found.1) c.in_ok-push-in-Some-digest_name.ensures.items refl refl refl, found.3)

pub returns-in_err-push-in-Some-digest_name : goal.returns-in_err-push-in-Some-digest_name
returns-in_err-push-in-Some-digest_name g c =
    let name = c.in-Both.name.now in
    let line = item_of c.in-Both.line in
    let found = c.in-Some-digest_name.ensures in
    fails-row (messages_of g.E.Sink c.args.err.now c.digest_name-in-Both.new.err) (IsRow (files_of g.S.Store g.S.File.Source c.args.context.now.store.now) c.args.kind (texts_of c.args.lost.now) (path_side c.args.side)) c.args.kind c.args.compared.now (record { matched = c.push-in-Some-digest_name.new.self; removed = c.args.compared.now.removed; added = c.args.compared.now.added; unread = c.args.compared.now.unread }) c.from_residual-in_err-push-in-Some-digest_name.result c.from_residual-in_err-push-in-Some-digest_name.ensures.0 (Met line name (Digested found.0))
    (subst (λ side. (IsRow (files_of g.S.Store g.S.File.Source c.args.context.now.store.now) c.args.kind (texts_of c.args.lost.now) (path_side side)) (Met line name (Digested found.0))) (sym c.in-Both.is) (Digested found.0, refl, found.2)) found.3

pub returns-in_ok-push-in-None-digest_name : goal.returns-in_ok-push-in-None-digest_name
returns-in_ok-push-in-None-digest_name g c =
    let name = c.in-Both.name.now in
    let line = item_of c.in-Both.line in
    let lost = c.in-None-digest_name.ensures in
    let old = c.args.compared.now in
    let new : Compared = record { matched = old.matched; removed = old.removed; added = old.added; unread = c.push-in-None-digest_name.new.self } in
    subst (λ side. AddsRow (messages_of g.E.Sink c.args.err.now c.digest_name-in-Both.new.err) (IsRow (files_of g.S.Store g.S.File.Source c.args.context.now.store.now) c.args.kind (texts_of c.args.lost.now) (path_side side)) c.args.kind old new (Ok tt)) (sym c.in-Both.is)
    (Met line name lost.0, (lost.0, refl, lost.2), grows-unread old new c.in-Both.name _ _ (ap (map (met line)) (not-digested c.in-Both.line.kind name lost.0 lost.1)) (unless-lacking name lost.0 lost.1) c.in_ok-push-in-None-digest_name.ensures.items refl refl refl, lost.3)

pub returns-in_err-push-in-None-digest_name : goal.returns-in_err-push-in-None-digest_name
returns-in_err-push-in-None-digest_name g c =
    let name = c.in-Both.name.now in
    let line = item_of c.in-Both.line in
    let lost = c.in-None-digest_name.ensures in
    fails-row (messages_of g.E.Sink c.args.err.now c.digest_name-in-Both.new.err) (IsRow (files_of g.S.Store g.S.File.Source c.args.context.now.store.now) c.args.kind (texts_of c.args.lost.now) (path_side c.args.side)) c.args.kind c.args.compared.now (record { matched = c.args.compared.now.matched; removed = c.args.compared.now.removed; added = c.args.compared.now.added; unread = c.push-in-None-digest_name.new.self }) c.from_residual-in_err-push-in-None-digest_name.result c.from_residual-in_err-push-in-None-digest_name.ensures.0 (Met line name lost.0)
    (subst (λ side. (IsRow (files_of g.S.Store g.S.File.Source c.args.context.now.store.now) c.args.kind (texts_of c.args.lost.now) (path_side side)) (Met line name lost.0)) (sym c.in-Both.is) (lost.0, refl, lost.2)) lost.3
