use Rattle.xxhsum_app.proofs.Prelude.{◌≡◌, EprintsLines, List, Seen, Visits, closed_in, files_in, given, lost_in, map, patterns_in, tree_of, waiting_in, without}
use Rattle.xxhsum_app.proofs.walk.files_below.Given as goal

-- Invariant: the names visited so far, their files, and the reports on them
abbrev pub invariant-loop : goal.invariant-loop
invariant-loop g l = record {
  trace : List Seen;
  visits : Visits (without (patterns_in (map (λ flag. flag.items) l.fn.flags)) (tree_of g.S.Store g.S.Folders l.fn.store)) (map given (map (λ name. name.items) l.fn.names)) trace (waiting_in l.waiting.items);
  files : map (λ file. file.items) l.walked.files.items ≡ files_in trace;
  unread : map (λ name. name.items) l.walked.unread.items ≡ lost_in trace;
  reports : EprintsLines g.E.Sink (closed_in trace) l.initial.err l.err;
}
