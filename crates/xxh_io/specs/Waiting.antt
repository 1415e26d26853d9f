-- Bytes in a buffer that are not yet written.
use Rattle.std.specs.Prelude.{◌≡◌, ℕ, List, ◌++◌, take}
use Rattle.xxh_io.specs.declared.waiting.Waiting.{Waiting}
use Rattle.xxh_io.specs.Digest.{Took}
use Rattle.xxh_io.specs.Rules.{SinkRules}

-- the buffered bytes
abbrev pub waiting_bytes : {N : ℕ} → Waiting N → List ℕ
waiting_bytes w = take w.len w.bytes

-- their number
abbrev pub waiting_count : {N : ℕ} → Waiting N → ℕ
waiting_count w = w.len

-- a front of these bytes was written, and the others are buffered
abbrev pub Gathers : {S : Type 0} → SinkRules S → List ℕ → S → S → List ℕ → Type 0
Gathers writing bytes old new waiting =
    (front : List ℕ) × Took writing front old new × (front ++ waiting ≡ bytes)
