use Rattle.xxhsum_program.proofs.Prelude.{HasRead, IsAtEnd, List, most_reads_left, ℕ}
use Rattle.xxhsum_program.proofs.lines.Lines.gather.Given as goal

-- Invariant: the bytes read so far are kept, and a source that has ended stays at its end
abbrev pub invariant-loop-found : goal.invariant-loop-found
invariant-loop-found g l = record {
  reads : (from : g.row.R.Denot) (done : List ℕ) → HasRead g.R.Source from done l.initial.self
      → HasRead g.R.Source from done l.self;
  ended : IsAtEnd l.initial.self → IsAtEnd l.self;
}

abbrev pub decreases-loop-found : goal.decreases-loop-found
decreases-loop-found g l = most_reads_left l.self
