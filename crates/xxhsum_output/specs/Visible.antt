-- A sink in front of a terminal.
use Rattle.std.specs.Prelude.{◌≡◌, ℕ, Bool, List}
use Rattle.xxh_io.specs.Digest.{Refused, Took}
use Rattle.xxh_io.specs.Rules.{SinkRules}
use Rattle.xxhsum_output.specs.Shown.{shown}
use Rattle.xxhsum_output.specs.declared.visible.Visible.{Visible}

-- The inner sink.
abbrev pub terminal_of : {W : Type 0} → Visible W → W
terminal_of visible = visible.inner

-- True if control characters are made visible.
abbrev pub is_shown : {W : Type 0} → Visible W → Bool
is_shown visible = visible.is_on

-- The inner sink took the chunk as displayed.
abbrev pub TakesShown : {W : Type 0} → SinkRules W → Visible W → List ℕ → Visible W → Type 0
TakesShown writing old piece new =
    (is_shown new ≡ is_shown old) × Took writing (shown (is_shown old) piece) (terminal_of old) (terminal_of new)

-- A write failed: the inner sink took a proper prefix of some text.
abbrev pub RefusesShown : {W : Type 0} → SinkRules W → Visible W → Visible W → Type 0
RefusesShown writing old new =
    (is_shown new ≡ is_shown old) × ((text : List ℕ) × Refused writing text (terminal_of old) (terminal_of new))
