use Rattle.std.proofs.Common.{sym, ◌∙◌}
use Rattle.xxhsum_program.specs.Order.{rules_of}
use Rattle.xxhsum_program.proofs.LineEndFacts.{summary-printed, summary-reported}
use Rattle.xxhsum_program.proofs.check.ListCheck.sum_up.Goals as goal
use Rattle.xxhsum_program.proofs.check.ListCheck.sum_up.Goals.{then-has_no_line, else-has_no_line}

pub returns-clause-emits : goal.returns-clause-emits
returns-clause-emits g c =
    let rules = rules_of g.W.Sink g.W.Output.held g.W.Output.has_lost g.E.Sink in
    let options = c.args.self.now.options in
    let list = c.args.self.now.name.now in
    let report = c.args.report.now in
    let old = c.args.streams.now in
    elim c.if-has_no_line.branch [
      | then-has_no_line w ↦
          rw w.streams-is (summary-reported rules options list report old w.report.new.self c.print_summary.new.out c.print_summary.result (sym c.has_no_line.ensures ∙ w.if-has_no_line.true) w.report.ensures.reports (rw w.streams-is at c.print_summary.ensures.prints) c.print_summary.ensures.only)
      | else-has_no_line w ↦
          rw w.streams-is (summary-printed rules options list report old c.print_summary.new.out c.print_summary.result (sym c.has_no_line.ensures ∙ w.if-has_no_line.false) (rw w.streams-is at c.print_summary.ensures.prints) c.print_summary.ensures.only)
    ]
