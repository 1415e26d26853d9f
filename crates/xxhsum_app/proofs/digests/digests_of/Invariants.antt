use Rattle.xxhsum_app.proofs.Prelude.{◌++◌, ◌≡◌, AreRows, HoldsRows, Item, List, Row, Side, EprintsLines, by_path, files_of, items_of, length, texts_of, messages_in, ℕ}
use Rattle.xxhsum_app.proofs.digests.digests_of.Given as goal

-- Invariant: one row for each side so far, and their results
abbrev pub invariant-loop-side : goal.invariant-loop-side
invariant-loop-side g l = record {
  rows : List Row;
  done : List (Side Item (List ℕ));
  parts : by_path (items_of l.fn.lines) (texts_of l.fn.names) ≡ done ++ by_path (items_of l.lines_left) (texts_of l.names_left);
  are : AreRows (files_of g.S.Store g.S.File.Source l.fn.context.store.now) l.fn.kind (texts_of l.fn.lost) done rows;
  holds : HoldsRows l.fn.kind (texts_of l.fn.lost) rows l.compared;
  reports : EprintsLines g.E.Sink (messages_in rows) l.initial.err l.err;
}

abbrev pub decreases-loop-side : goal.decreases-loop-side
decreases-loop-side g l = length (by_path (items_of l.lines_left) (texts_of l.names_left))
