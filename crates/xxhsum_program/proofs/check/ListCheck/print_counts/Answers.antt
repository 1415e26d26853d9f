use Rattle.xxhsum_program.proofs.HashFacts.{is-err}
use Rattle.xxhsum_program.proofs.LineEndFacts.{line_join, line_more, summary-is}
use Rattle.xxhsum_program.proofs.check.ListCheck.print_counts.Goals as goal

pub returns-in_err-print_count-clause-prints : goal.returns-in_err-print_count-clause-prints
returns-in_err-print_count-clause-prints g c =
    let stop = c.in_err-print_count.field-0.0 in
    rw (summary-is c.args.self.now.options c.args.report.now c.if-report-eq0.false c.if-self.false)
    (line_more g.W.Sink _ _ c.args.out.now c.print_count.new.out c.from_residual.result stop (is-err c.from_residual.result stop c.from_residual.ensures.1) c.in_err-print_count.ensures.only c.in_err-print_count.ensures.prints)

pub returns-in_err-print_count-2-clause-prints : goal.returns-in_err-print_count-2-clause-prints
returns-in_err-print_count-2-clause-prints g c =
    let stop = c.in_err-print_count-2.field-0.0 in
    let result = c.from_residual-in_err-print_count-2.result in
    let is = is-err result stop c.from_residual-in_err-print_count-2.ensures.1 in
    rw (summary-is c.args.self.now.options c.args.report.now c.if-report-eq0.false c.if-self.false)
    (line_join g.W.Sink _ _ c.args.out.now c.print_count.new.out c.print_count-2.new.out result c.in_ok-print_count.ensures.prints (rw is c.in_err-print_count-2.ensures.only)
    (line_more g.W.Sink _ _ c.print_count.new.out c.print_count-2.new.out result stop is c.in_err-print_count-2.ensures.only c.in_err-print_count-2.ensures.prints))

pub returns-clause-prints : goal.returns-clause-prints
returns-clause-prints g c =
    rw (summary-is c.args.self.now.options c.args.report.now c.if-report-eq0.false c.if-self.false)
    (line_join g.W.Sink _ _ c.args.out.now c.print_count.new.out c.print_count-3.new.out c.print_count-3.result c.in_ok-print_count.ensures.prints c.print_count-3.ensures.only
    (line_join g.W.Sink _ _ c.print_count.new.out c.print_count-2.new.out c.print_count-3.new.out c.print_count-3.result c.in_ok-print_count-2.ensures.prints c.print_count-3.ensures.only c.print_count-3.ensures.prints))
