use Rattle.xxhsum_app.proofs.Prelude.{◌≡◌, Classed, Took, false, founds_of, map, shown_texts, take}
use Rattle.xxhsum_app.proofs.report.print_verdicts.Given as goal

-- Invariant: the texts so far were printed, and no write has failed
abbrev pub invariant-loop-verdict : goal.invariant-loop-verdict
invariant-loop-verdict g l = record {
  prints : Took g.W.Sink (shown_texts l.options (map Classed (founds_of (take l.verdict-index l.found)))) l.initial.out l.out;
  works : g.W.Sink.has_failed l.out ≡ false;
}
