use Rattle.xxhsum_app.proofs.Prelude.{◌≡◌, Took, Unreadable, false, map, shown_texts, take, texts_of}
use Rattle.xxhsum_app.proofs.report.print_unread.Given as goal

-- Invariant: the texts so far were printed, and no write has failed
abbrev pub invariant-loop-name : goal.invariant-loop-name
invariant-loop-name g l = record {
  prints : Took g.W.Sink (shown_texts l.options (map Unreadable (texts_of (take l.name-index l.unread)))) l.initial.out l.out;
  works : g.W.Sink.has_failed l.out ≡ false;
}
