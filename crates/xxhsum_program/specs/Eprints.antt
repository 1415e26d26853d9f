-- The output on standard error.
use Rattle.std.specs.Prelude.{ℕ, List, ◌++◌, flat_map}
use Rattle.xxh_io.specs.Rules.{SinkRules}
use Rattle.xxh_io.specs.Reports.{TakesOrFails}
use Rattle.xxhsum_line.specs.Escapes.{one_line}

-- The bytes were written after all earlier ones.
abbrev pub Eprints : {E : Type 0} → SinkRules E → List ℕ → E → E → Type 0
Eprints {E} reporting bytes old new =
    (initial : E) (before : List ℕ) → TakesOrFails reporting before initial old
    → TakesOrFails reporting (before ++ bytes) initial new

-- Each text was written as one line, after all earlier bytes.
abbrev pub EprintsLines : {E : Type 0} → SinkRules E → List (List ℕ) → E → E → Type 0
EprintsLines reporting texts old new = Eprints reporting (flat_map one_line texts) old new
