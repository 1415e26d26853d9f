use Rattle.xxhsum_program.proofs.Prelude.{◌≡◌, Comes, EachHas, EmitsAll, List, Outcome, are_digested, false, files_of, lines_of, map, name_events, rules_of, style_of, take}
use Rattle.xxhsum_program.proofs.hash.hash_names.Given as goal

-- Invariant: an outcome for each name so far, and the events of all of them.
abbrev pub invariant-loop-name : goal.invariant-loop-name
invariant-loop-name g l = record {
  outcomes : List Outcome;
  each : EachHas (Comes (files_of g.S.Store g.S.File.Source l.fn.context.store.now) l.fn.context.options.kind) (map (λ name. name.items) (take l.name-index l.names)) outcomes;
  emits : EmitsAll (rules_of g.W.Sink g.W.Output.held g.W.Output.has_lost g.E.Sink) (lines_of (name_events l.fn.context.options.kind (style_of l.fn.context.options)) (map (λ name. name.items) (take l.name-index l.names)) outcomes) l.initial.streams l.streams;
  all : l.all ≡ are_digested outcomes;
  works : g.W.Sink.has_failed l.streams.out ≡ false;
}
