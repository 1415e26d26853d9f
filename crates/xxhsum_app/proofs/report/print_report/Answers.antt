use Rattle.xxhsum_app.proofs.Prelude.{◌∙◌, OutOfMemory, PrintsLine, founds_of, is-err, subst, texts_of}
use Rattle.xxhsum_app.proofs.ReportFacts.{ends-in-counts, report-stops, stops-in-back, stops-in-counts, stops-in-front}
use Rattle.xxhsum_app.proofs.report.print_report.Goals as goal

pub returns-in_err-print_verdicts : goal.returns-in_err-print_verdicts
returns-in_err-print_verdicts g c =
    let stop = c.in_err-print_verdicts.field-0.0 in
    let found = founds_of c.args.found.now in
    let unread = texts_of c.args.unread.now in
    report-stops (Unit {0}) g.W.Sink c.args.options found unread _ _ stop c.from_residual.result (is-err c.from_residual.result stop c.from_residual.ensures.1)
    (stops-in-front (Unit {0}) g.W.Sink c.args.options found unread c.if-options.false _ _ stop c.in_err-print_verdicts.ensures.prints)

pub returns-in_err-print_unread : goal.returns-in_err-print_unread
returns-in_err-print_unread g c =
    let stop = c.in_err-print_unread.field-0.0 in
    let found = founds_of c.args.found.now in
    let unread = texts_of c.args.unread.now in
    report-stops (Unit {0}) g.W.Sink c.args.options found unread _ _ stop c.from_residual-in_err-print_unread.result
    (is-err c.from_residual-in_err-print_unread.result stop c.from_residual-in_err-print_unread.ensures.1)
    (stops-in-back (Unit {0}) g.W.Sink c.args.options found unread c.if-options.false _ _ _ stop c.in_ok-print_verdicts.ensures.prints c.in_err-print_unread.ensures.prints)

pub returns-in_err-counts : goal.returns-in_err-counts
returns-in_err-counts g c =
    let found = founds_of c.args.found.now in
    let unread = texts_of c.args.unread.now in
    report-stops (Unit {0}) g.W.Sink c.args.options found unread _ _ OutOfMemory c.from_residual-in_err-counts.result
    (is-err c.from_residual-in_err-counts.result OutOfMemory c.from_residual-in_err-counts.ensures.1)
    (stops-in-counts (Unit {0}) g.W.Sink c.args.options found unread c.if-options.false _ _ _ c.in_ok-print_verdicts.ensures.prints c.in_ok-print_unread.ensures.prints)

pub returns : goal.returns
returns g c =
    ends-in-counts g.W.Sink c.args.options (founds_of c.args.found.now) (texts_of c.args.unread.now) c.if-options.false _ _ _ c.print.new.out c.print.result
    c.in_ok-print_verdicts.ensures.prints c.in_ok-print_unread.ensures.prints
    (subst (λ bytes. PrintsLine g.W.Sink bytes c.print_unread.new.out c.print.new.out c.print.result) (c.deref.ensures.value ∙ c.in_ok-counts.ensures) c.print.ensures.prints)
