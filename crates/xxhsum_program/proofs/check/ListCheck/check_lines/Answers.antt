use Rattle.std.proofs.Common.{◌≡◌, ◌+◌, ◌-◌, ◌^◌, ◌∷◌, ◌++◌, [], length, Some, refl, sym, ap, ◌∙◌, arith}
use Rattle.xxhsum_program.proofs.Prelude.{Endless, FailedRead, IsFinding, TooMany, Whole, count_one, files_of, finding_events, length_push, no_findings, reason_behind, report_of, rules_of, source_of, with_broken_end}
use Rattle.xxhsum_program.proofs.CheckFacts.{add_up-push, breaks-endless, breaks-failed, ends-well, some-read, stands-line, stands-new}
use Rattle.xxhsum_program.proofs.EachFacts.{EachHas-push}
use Rattle.xxhsum_program.proofs.HashFacts.{is-err}
use Rattle.xxhsum_program.proofs.ListMessageFacts.{numbered-push}
use Rattle.xxhsum_program.proofs.OrderFacts.{emits-append}
use Rattle.xxhsum_program.proofs.StopFacts.{emits-break, lines-begin-not, lines-stop}
use Rattle.xxhsum_program.specs.declared.stop.Stop.TheVariants.{OutOfMemory}
use Rattle.xxhsum_program.proofs.check.ListCheck.check_lines.Goals as goal

pub returns-in_err-room-clause-checks : goal.returns-in_err-room-clause-checks
returns-in_err-room-clause-checks g c =
    let is_finding = IsFinding (files_of g.S.Store g.S.File.Source c.args.self.now.store.now) c.args.self.now.options.is_little_endian in
    rw (is-err c.from_residual.result OutOfMemory c.from_residual.ensures.1)
    (lines-begin-not is_finding g.R.Source (rules_of g.W.Sink g.W.Output.held g.W.Output.has_lost g.E.Sink) c.args.self.now.options c.args.self.now.name.now (source_of c.args.source) c.args.streams.now)

pub loop-number-init : goal.loop-number-init
loop-number-init g c = record {
  read = [];
  findings = [];
  each = tt;
  report = c.new-report.ensures;
  lines = refl;
  count = refl;
  stands = stands-new g.R.Source (source_of c.args.source) c.new-lines.result c.new-lines.ensures;
  emits = (refl, refl);
  works = c.requires;
}

pub loop-number-preserved : goal.loop-number-preserved
loop-number-preserved g c =
    let so_far = c.loop-number.invariant in
    let state = c.next.new.self in
    let (line, held, stands) = stands-line g.R.Source (source_of c.args.source) c.loop-number.lines state so_far.read so_far.stands c.in-Line.ensures.next c.in-Line.ensures.ended in
    let checked = c.in_ok-check_line-in-Line.ensures.checks line (c.line.ensures line held) in
    let finding = checked.0 in
    let options = c.args.self.now.options in
    let list = c.args.self.now.name.now in
    let number = c.loop-number.number in
    record {
      read = so_far.read ++ line ∷ [];
      findings = so_far.findings ++ finding ∷ [];
      each = EachHas-push _ so_far.read so_far.findings line finding so_far.each checked.1;
      report = checked.2 ∙ ap (λ r. count_one options.ignores_missing r finding) so_far.report ∙ sym (add_up-push options.ignores_missing no_findings so_far.findings finding);
      lines = omega (arith, length_push so_far.read line, so_far.lines);
      count = omega (arith, length_push so_far.findings finding, so_far.count);
      stands = stands;
      emits = rw (numbered-push (finding_events options list) 1 so_far.findings finding number so_far.count)
          (emits-append (rules_of g.W.Sink g.W.Output.held g.W.Output.has_lost g.E.Sink) _ _ c.args.streams.now c.loop-number.streams c.check_line.new.streams so_far.emits checked.3);
      works = c.in_ok-check_line-in-Line.ensures.works;
    }

pub returns-in-End-clause-checks : goal.returns-in-End-clause-checks
returns-in-End-clause-checks g c =
    let so_far = c.loop-number.invariant in
    let here = c.loop-number.streams in (
      so_far.findings,
      Some Whole,
      (so_far.read, so_far.each, ends-well g.R.Source (source_of c.args.source) c.loop-number.lines c.next.new.self so_far.read so_far.stands c.in-End.ensures.next),
      so_far.report,
      emits-append (rules_of g.W.Sink g.W.Output.held g.W.Output.has_lost g.E.Sink) _ [] c.args.streams.now here here so_far.emits (refl, refl),
    )

pub returns-in-Failed-clause-checks : goal.returns-in-Failed-clause-checks
returns-in-Failed-clause-checks g c =
    let so_far = c.loop-number.invariant in
    let rules = rules_of g.W.Sink g.W.Output.held g.W.Output.has_lost g.E.Sink in
    let list = c.args.self.now.name.now in
    let mid = c.loop-number.streams in
    let why = reason_behind g.R.Source c.next.new.self in
    let reports = rw (c.text.ensures.text, c.failure-failure.ensures) at c.report_line.ensures.reports in
    let count : c.loop-number.number ≡ length so_far.findings + 1 = omega (arith, so_far.count) in (
      so_far.findings,
      Some (FailedRead why),
      (so_far.read, so_far.each, breaks-failed g.R.Source (source_of c.args.source) c.loop-number.lines c.next.new.self so_far.read so_far.stands c.in-Failed.ensures.next c.in-Failed.ensures.ended),
      c.with_broken_end.ensures ∙ ap with_broken_end so_far.report,
      emits-append rules _ _ c.args.streams.now mid c.report_line.new.streams so_far.emits (emits-break rules list (FailedRead why) c.loop-number.number (length so_far.findings + 1) mid c.report_line.new.streams count (c.report_line.new.streams, reports, (refl, refl))),
    )

pub returns-in-Endless-clause-checks : goal.returns-in-Endless-clause-checks
returns-in-Endless-clause-checks g c =
    let so_far = c.loop-number.invariant in
    let rules = rules_of g.W.Sink g.W.Output.held g.W.Output.has_lost g.E.Sink in
    let list = c.args.self.now.name.now in
    let mid = c.loop-number.streams in
    let count : c.loop-number.number ≡ length so_far.findings + 1 = omega (arith, so_far.count) in (
      so_far.findings,
      Some Endless,
      (so_far.read, so_far.each, breaks-endless g.R.Source (source_of c.args.source) c.loop-number.lines c.next.new.self so_far.read so_far.stands c.in-Endless.ensures.next c.in-Endless.ensures.ended),
      c.with_broken_end-in-Endless.ensures ∙ ap with_broken_end so_far.report,
      emits-append rules _ _ c.args.streams.now mid c.report_line-in-Endless.new.streams so_far.emits (emits-break rules list Endless c.loop-number.number (length so_far.findings + 1) mid c.report_line-in-Endless.new.streams count (c.report_line-in-Endless.new.streams, c.report_line-in-Endless.ensures.reports, (refl, refl))),
    )

pub returns-clause-checks : goal.returns-clause-checks
returns-clause-checks g c =
    let so_far = c.loop-number.invariant in
    let here = c.loop-number.streams in
    let most : length so_far.read ≡ 2 ^ 64 - 2 = omega (arith, so_far.lines) in (
      so_far.findings,
      Some TooMany,
      (so_far.read, so_far.each, (some-read g.R.Source (source_of c.args.source) c.loop-number.lines so_far.read so_far.stands, most)),
      so_far.report,
      emits-append (rules_of g.W.Sink g.W.Output.held g.W.Output.has_lost g.E.Sink) _ [] c.args.streams.now here here so_far.emits (refl, refl),
    )

pub returns-in_err-check_line-in-Line-clause-checks : goal.returns-in_err-check_line-in-Line-clause-checks
returns-in_err-check_line-in-Line-clause-checks g c =
    let so_far = c.loop-number.invariant in
    let state = c.next.new.self in
    let stop = c.in_err-check_line-in-Line.field-0.0 in
    let (line, held, stands) = stands-line g.R.Source (source_of c.args.source) c.loop-number.lines state so_far.read so_far.stands c.in-Line.ensures.next c.in-Line.ensures.ended in
    let checked = c.in_err-check_line-in-Line.ensures.checks line (c.line.ensures line held) in
    let is_finding = IsFinding (files_of g.S.Store g.S.File.Source c.args.self.now.store.now) c.args.self.now.options.is_little_endian in
    rw (is-err c.from_residual-in_err-check_line-in-Line.result stop c.from_residual-in_err-check_line-in-Line.ensures.1)
    (lines-stop is_finding g.R.Source (rules_of g.W.Sink g.W.Output.held g.W.Output.has_lost g.E.Sink) c.args.self.now.options c.args.self.now.name.now (source_of c.args.source) c.args.streams.now c.loop-number.streams c.check_line.new.streams c.loop-number.lines state so_far.read so_far.findings line c.loop-number.number c.loop-number.report c.check_line.new.report stop so_far.each so_far.stands stands so_far.count so_far.emits checked)
