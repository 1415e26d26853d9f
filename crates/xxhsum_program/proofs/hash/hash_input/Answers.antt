use Rattle.xxhsum_program.proofs.Prelude.{◌∙◌, ◌≡◌, Err, Ok, PrintsLine, ap, error_text, reason_text, refl, rules_of, source_of, streams_of, style_of, styled_line, subst}
use Rattle.xxhsum_program.proofs.EprintFacts.{reports-nothing}
use Rattle.xxhsum_program.proofs.HashFacts.{input-stops, is-err, reason-says}
use Rattle.xxhsum_program.proofs.hash.hash_input.Goals as goal

pub returns-in-Err : goal.returns-in-Err
returns-in-Err g c =
    let read = c.in-Err.ensures.value in
    let why : reason_text c.reason_of-reason.result ≡ error_text c.in-Err.error (g.R.Source.reason (source_of c.value.new.self)) =
    ap reason_text c.reason_of-reason.ensures ∙ reason-says c.in-Err.error c.failure.result ∙ ap (error_text c.in-Err.error) c.failure.ensures in
    let emits = rw (c.text.ensures, why) at c.report.ensures.reports in
    (read.0, Err c.in-Err.error, read.1, refl, (c.report.new.self, emits, (refl, refl)))

pub returns-in_ok-print_value-in-Ok : goal.returns-in_ok-print_value-in-Ok
returns-in_ok-print_value-in-Ok g c =
    let read = c.in-Ok.ensures.value in
    let took = rw read.2 at c.in_ok-print_value-in-Ok.ensures.prints in
    (read.0, Ok c.in-Ok.value, read.1, refl, (streams_of c.print_value.new.out c.args.streams.now.err, (took, reports-nothing g.E.Sink c.args.streams.now.err), (refl, refl)))

pub returns-in_err-print_value-in-Ok : goal.returns-in_err-print_value-in-Ok
returns-in_err-print_value-in-Ok g c =
    let read = c.in-Ok.ensures.value in
    let stop = c.in_err-print_value-in-Ok.field-0.0 in
    let prints = subst (λ value. PrintsLine {T = Unit {0}} g.W.Sink (styled_line c.args.options.kind (style_of c.args.options) value c.args.name.now) c.args.streams.now.out c.print_value.new.out (Err stop)) read.2 c.in_err-print_value-in-Ok.ensures.prints in
    rw (is-err c.from_residual.result stop c.from_residual.ensures.1)
    (read.0, Ok c.in-Ok.value, read.1, tt, input-stops (rules_of g.W.Sink g.W.Output.held g.W.Output.has_lost g.E.Sink) c.args.options.kind (style_of c.args.options) c.args.name.now _ c.in-Ok.value c.args.streams.now c.print_value.new.out stop prints)
