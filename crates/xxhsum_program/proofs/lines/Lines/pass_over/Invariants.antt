use Rattle.xxhsum_program.proofs.Prelude.{HasRead, List, ℕ}
use Rattle.xxhsum_program.proofs.LineFacts.{IsInside}
use Rattle.xxhsum_program.proofs.lines.Lines.pass_over.Given as goal

-- Invariant: each read so far returned bytes of the line
abbrev pub invariant-loop-turn : goal.invariant-loop-turn
invariant-loop-turn g l =
    (from : g.row.R.Denot) (done : List ℕ) → HasRead g.R.Source from done l.initial.self → IsInside g.R.Source from done l.turn l.self
