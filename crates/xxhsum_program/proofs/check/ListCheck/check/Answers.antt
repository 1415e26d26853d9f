use Rattle.xxhsum_program.proofs.Prelude.{IsFinding, files_of, rules_of, source_of}
use Rattle.xxhsum_program.specs.declared.stop.Stop.TheVariants.{OutOfMemory}
use Rattle.xxhsum_program.proofs.HashFacts.{is-err}
use Rattle.xxhsum_program.proofs.StopFacts.{check-begins-not, check-ends, check-stops, check-summary-stops}
use Rattle.xxhsum_program.proofs.check.ListCheck.check.Goals as goal

pub returns-in_err-unverified-clause-checks : goal.returns-in_err-unverified-clause-checks
returns-in_err-unverified-clause-checks g c =
    let is_finding = IsFinding (files_of g.S.Store g.S.File.Source c.args.self.now.store.now) c.args.self.now.options.is_little_endian in
    rw (is-err c.from_residual.result OutOfMemory c.from_residual.ensures.1)
    (check-begins-not is_finding g.R.Source (rules_of g.W.Sink g.W.Output.held g.W.Output.has_lost g.E.Sink) c.args.self.now.options c.args.self.now.name.now (source_of c.args.source) c.args.streams.now)

pub returns-in_err-report-clause-checks : goal.returns-in_err-report-clause-checks
returns-in_err-report-clause-checks g c =
    let stop = c.in_err-report.field-0.0 in
    let is_finding = IsFinding (files_of g.S.Store g.S.File.Source c.args.self.now.store.now) c.args.self.now.options.is_little_endian in
    rw (is-err c.from_residual-in_err-report.result stop c.from_residual-in_err-report.ensures.1)
    (check-stops is_finding g.R.Source (rules_of g.W.Sink g.W.Output.held g.W.Output.has_lost g.E.Sink) c.args.self.now.options c.args.self.now.name.now (source_of c.args.source) c.args.streams.now c.check_lines.new.streams stop c.in_err-report.ensures.checks)

pub returns-in_err-sum_up-clause-checks : goal.returns-in_err-sum_up-clause-checks
returns-in_err-sum_up-clause-checks g c =
    let stop = c.in_err-sum_up.field-0.0 in
    let is_finding = IsFinding (files_of g.S.Store g.S.File.Source c.args.self.now.store.now) c.args.self.now.options.is_little_endian in
    rw (is-err c.from_residual-in_err-sum_up.result stop c.from_residual-in_err-sum_up.ensures.1)
    (check-summary-stops is_finding g.R.Source (rules_of g.W.Sink g.W.Output.held g.W.Output.has_lost g.E.Sink) c.args.self.now.options c.args.self.now.name.now (source_of c.args.source) c.args.streams.now c.check_lines.new.streams c.sum_up.new.streams c.in_ok-report.report stop c.in_ok-report.ensures.checks c.in_err-sum_up.ensures.emits)

pub returns-clause-checks : goal.returns-clause-checks
returns-clause-checks g c =
    let is_finding = IsFinding (files_of g.S.Store g.S.File.Source c.args.self.now.store.now) c.args.self.now.options.is_little_endian in
    check-ends is_finding g.R.Source (rules_of g.W.Sink g.W.Output.held g.W.Output.has_lost g.E.Sink) c.args.self.now.options c.args.self.now.name.now (source_of c.args.source) c.args.streams.now c.check_lines.new.streams c.sum_up.new.streams c.in_ok-report.report c.passes.result c.in_ok-report.ensures.checks c.in_ok-sum_up.ensures.emits c.passes.ensures
