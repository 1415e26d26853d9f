use Rattle.xxhsum_program.proofs.Prelude.{◌≡◌, AreAllDone, EachHas, EmitsAll, IsListOutcome, List, ListOutcome, are_good, false, files_of, lines_of, map, outcome_events, rules_of, take}
use Rattle.xxhsum_program.proofs.check.check_lists.Given as goal

-- Invariant: an outcome for each list so far, and the events of all of them.
abbrev pub invariant-loop-name : goal.invariant-loop-name
invariant-loop-name g l = record {
  outcomes : List ListOutcome;
  each : EachHas (IsListOutcome (files_of g.S.Store g.S.File.Source l.fn.context.store.now) l.fn.context.options.is_little_endian) (map (λ name. name.items) (take l.name-index l.names)) outcomes;
  finished : AreAllDone outcomes;
  all : l.all ≡ are_good l.fn.context.options outcomes;
  emits : EmitsAll (rules_of g.W.Sink g.W.Output.held g.W.Output.has_lost g.E.Sink) (lines_of (outcome_events l.fn.context.options) (map (λ name. name.items) (take l.name-index l.names)) outcomes) l.initial.streams l.streams;
  works : g.W.Sink.has_failed l.streams.out ≡ false;
}
