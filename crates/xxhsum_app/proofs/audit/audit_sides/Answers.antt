use Rattle.std.proofs.Common.{[], Ok, Err, append-nil, inr, refl, subst, sym}
use Rattle.xxhsum_app.proofs.Prelude.{AreRows, OutOfMemory, PrintsReport, by_path, effect_of, files_of, founds_of, is-err, items_of, rules_of, streams_of, texts_of}
use Rattle.xxhsum_app.proofs.ReportFacts.{report-stops, stop-answers}
use Rattle.xxhsum_app.proofs.RowFacts.{says-audit}
use Rattle.xxhsum_app.proofs.audit.audit_sides.Goals as goal

pub returns-in_err-print_report : goal.returns-in_err-print_report
returns-in_err-print_report g c =
    let stop = c.in_err-print_report.field-0.0 in
    let result = c.from_residual-in_err-print_report.result in
    let is = is-err result stop c.from_residual-in_err-print_report.ensures.1 in
    let compared = c.in_ok-compared.compared in
    let found = founds_of c.in_ok-found.found.items in
    let unread = texts_of compared.unread.items in
    let prints = subst (λ some. PrintsReport {T = Unit {0}} g.W.Sink c.args.context.now.options (founds_of some) (texts_of compared.unread.items) c.args.streams.now.out c.print_report.new.out (Err stop)) c.deref.ensures.value
    (subst (λ names. PrintsReport {T = Unit {0}} g.W.Sink c.args.context.now.options (founds_of c.deref.result.now) (texts_of names) c.args.streams.now.out c.print_report.new.out (Err stop)) c.deref-2.ensures.value c.in_err-print_report.ensures) in
    says-audit (files_of g.S.Store g.S.File.Source c.args.context.now.store.now) (effect_of (rules_of g.W.Sink g.W.Output.held g.W.Output.has_lost g.E.Sink) c.args.streams.now (streams_of c.print_report.new.out c.digests_of.new.err) result) c.args.context.now.options (texts_of c.args.lost.now) (items_of c.args.lines.now) (texts_of c.args.requested.now) _ compared found
    c.requires.lines c.requires.names c.kind_of_new-kind.ensures (rw c.messages.ensures.value at c.in_ok-compared.ensures) c.in_ok-found.ensures
    (report-stops (Unit {0}) g.W.Sink c.args.context.now.options found unread _ _ stop result is prints) (stop-answers found unread stop result is)

pub returns : goal.returns
returns g c =
    let compared = c.in_ok-compared.compared in
    let found = founds_of c.in_ok-found.found.items in
    let prints = subst (λ some. PrintsReport {T = Unit {0}} g.W.Sink c.args.context.now.options (founds_of some) (texts_of compared.unread.items) c.args.streams.now.out c.print_report.new.out (Ok tt)) c.deref.ensures.value
    (subst (λ names. PrintsReport {T = Unit {0}} g.W.Sink c.args.context.now.options (founds_of c.deref.result.now) (texts_of names) c.args.streams.now.out c.print_report.new.out (Ok tt)) c.deref-2.ensures.value c.in_ok-print_report.ensures) in
    let good = rw (c.deref-3.ensures.value, c.deref-4.ensures.value) at c.is_good.ensures in
    says-audit (files_of g.S.Store g.S.File.Source c.args.context.now.store.now) (effect_of (rules_of g.W.Sink g.W.Output.held g.W.Output.has_lost g.E.Sink) c.args.streams.now (streams_of c.print_report.new.out c.digests_of.new.err) (Ok c.is_good.result)) c.args.context.now.options (texts_of c.args.lost.now) (items_of c.args.lines.now) (texts_of c.args.requested.now) _ compared found
    c.requires.lines c.requires.names c.kind_of_new-kind.ensures (rw c.messages.ensures.value at c.in_ok-compared.ensures) c.in_ok-found.ensures prints good

pub returns-in_err-found : goal.returns-in_err-found
returns-in_err-found g c =
    let digests = rw c.messages.ensures.value at c.in_ok-compared.ensures in
    let sides = by_path (items_of c.args.lines.now) (texts_of c.args.requested.now) in
    inr (digests.0, (sides, [], sym (append-nil _), subst (λ k. AreRows (files_of g.S.Store g.S.File.Source c.args.context.now.store.now) k (texts_of c.args.lost.now) sides digests.0) c.kind_of_new-kind.ensures digests.1, digests.3), refl, is-err c.from_residual-in_err-found.result OutOfMemory c.from_residual-in_err-found.ensures.1)
