-- Lines that are buffered, and written whole.
use Rattle.std.specs.Prelude.{◌≡◌, ◌⊎◌, ℕ, Bool, true, false, List, [], ◌++◌}
use Rattle.xxhsum_output.specs.declared.whole_lines.WholeLines.{WholeLines}
use Rattle.xxh_io.specs.Digest.{Refused, Took}
use Rattle.xxh_io.specs.Waiting.{Gathers, waiting_bytes}
use Rattle.xxh_io.specs.Rules.{SinkRules}

-- The inner sink.
abbrev pub behind : {W : Type 0} → WholeLines W → W
behind lines = lines.inner

-- The buffered lines.
abbrev pub waiting_lines : {W : Type 0} → WholeLines W → List ℕ
waiting_lines lines = waiting_bytes lines.waiting

-- True if a write to this sink has failed.
abbrev pub has_failed : {W : Type 0} → WholeLines W → Bool
has_failed lines = lines.has_failed

-- The line is appended to the buffered lines. Or the buffered lines are written, and then the line is buffered. Or the
-- buffered lines are written, and then the line is.
abbrev pub Passes : {W : Type 0} → SinkRules W → WholeLines W → List ℕ → WholeLines W → Type 0
Passes {W} writing old line new =
    ((behind new ≡ behind old) × (waiting_lines new ≡ waiting_lines old ++ line))
    ⊎ ((Took writing (waiting_lines old) (behind old) (behind new) × (waiting_lines new ≡ line))
    ⊎ ((met : W) × Took writing (waiting_lines old) (behind old) met × writing.takes met line (behind new)
    × (waiting_lines new ≡ [])))

-- The line is buffered or written, as above, and no write has failed.
abbrev pub TakesLine : {W : Type 0} → SinkRules W → WholeLines W → List ℕ → WholeLines W → Type 0
TakesLine writing old line new =
    (writing.has_failed (behind old) ≡ false) × (writing.has_failed (behind new) ≡ false) × Passes writing old line new

-- An earlier write has failed, and nothing is written. Or the write of the buffered lines fails, and they are lost.
abbrev pub LosesLines : {W : Type 0} → SinkRules W → WholeLines W → WholeLines W → Type 0
LosesLines writing old new =
    ((writing.has_failed (behind old) ≡ true) × (behind new ≡ behind old))
    ⊎ ((writing.has_failed (behind old) ≡ false) × (writing.has_failed (behind new) ≡ true)
    × Refused writing (waiting_lines old) (behind old) (behind new))

-- A line was taken. Or the chunk is empty, and the buffered lines are lost.
abbrev pub TakesPiece : {W : Type 0} → SinkRules W → WholeLines W → List ℕ → WholeLines W → Type 0
TakesPiece writing old piece new = TakesLine writing old piece new ⊎ ((piece ≡ []) × LosesLines writing old new)

-- The buffered lines are lost. Or they were written, and the write of the line itself fails.
abbrev pub RefusesLine : {W : Type 0} → SinkRules W → WholeLines W → WholeLines W → Type 0
RefusesLine {W} writing old new =
    LosesLines writing old new
    ⊎ ((writing.has_failed (behind old) ≡ false)
    × ((met : W) × Took writing (waiting_lines old) (behind old) met × writing.refuses met (behind new)))

-- The inner sink took these bytes, except the buffered ones at their end. Or a write to it failed, and it took a proper
-- prefix of these bytes.
abbrev pub Reaches : {W : Type 0} → SinkRules W → List ℕ → W → WholeLines W → Type 0
Reaches writing bytes first lines =
    ((writing.has_failed (behind lines) ≡ false) × Gathers writing bytes first (behind lines) (waiting_lines lines))
    ⊎ ((writing.has_failed (behind lines) ≡ true) × Refused writing bytes first (behind lines))
