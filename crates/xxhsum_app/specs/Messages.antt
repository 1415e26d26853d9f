-- The messages of a part of a run.
use Rattle.std.specs.Prelude.{ℕ, List}
use Rattle.xxhsum_app.specs.Prelude.{Effect, EprintsLines, SinkRules}
use Rattle.xxhsum_program.specs.Streams.{err_of}

-- Standard error with its rules, before and after the part.
pub record Messages (E : Type 0) : Type 1 where
  pub reporting : SinkRules E
  pub old : E
  pub new : E

abbrev pub messages_of : {E : Type 0} → SinkRules E → E → E → Messages E
messages_of reporting old new = record { reporting = reporting; old = old; new = new }

-- These texts were reported, each as one line.
abbrev pub Reports : {E : Type 0} → Messages E → List (List ℕ) → Type 0
Reports messages texts = EprintsLines messages.reporting texts messages.old messages.new

abbrev pub effect_messages : {W E : Type 0} → Effect W E → Messages E
effect_messages effect = messages_of effect.rules.reporting (err_of effect.old) (err_of effect.new)
