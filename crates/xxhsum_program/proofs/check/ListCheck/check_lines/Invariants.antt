use Rattle.xxhsum_program.proofs.Prelude.{◌+◌, ◌≡◌, EachHas, EmitsAll, Finding, IsFinding, List, false, files_of, finding_events, length, numbered, report_of, rules_of, source_of, ℕ}
use Rattle.xxhsum_program.proofs.CheckFacts.{Stands}
use Rattle.xxhsum_program.proofs.check.ListCheck.check_lines.Given as goal

-- Invariant: a finding for each line so far, counted in the report, and the events of all of them.
abbrev pub invariant-loop-number : goal.invariant-loop-number
invariant-loop-number g l = record {
  read : List (List ℕ);
  findings : List Finding;
  each : EachHas (IsFinding (files_of g.S.Store g.S.File.Source l.fn.self.store.now) l.fn.self.options.is_little_endian) read findings;
  report : l.report ≡ report_of l.fn.self.options.ignores_missing findings;
  lines : length read + 1 ≡ l.number;
  count : l.number ≡ 1 + length findings;
  stands : Stands g.R.Source (source_of l.fn.source) l.lines read;
  emits : EmitsAll (rules_of g.W.Sink g.W.Output.held g.W.Output.has_lost g.E.Sink) (numbered (finding_events l.fn.self.options l.fn.self.name.now) 1 findings) l.initial.streams l.streams;
  works : g.W.Sink.has_failed l.streams.out ≡ false;
}
