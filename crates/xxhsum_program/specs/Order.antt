-- The bytes written to standard output and standard error, in one order.
use Rattle.std.specs.Prelude.{◌≡◌, ◌⊎◌, ℕ, Bool, true, List, [], ◌∷◌, ◌++◌, Result, Ok, Err}
use Rattle.xxhsum_program.specs.Prelude.{Eprints, OutOfMemory, Refused, SinkRules, Stop, Streams, Took, WriteFailed, one_line}
use Rattle.xxhsum_program.specs.Finish.{IsWritten}
use Rattle.xxhsum_program.specs.Streams.{err_of}

-- The rules of both streams; and, of standard output, the bytes it holds and whether it has lost some.
pub record StreamRules (W E : Type 0) : Type 1 where
  pub writing : SinkRules W
  pub held : W → List ℕ
  pub has_lost : W → Bool
  pub reporting : SinkRules E

abbrev pub rules_of : {W E : Type 0} → SinkRules W → (W → List ℕ) → (W → Bool) → SinkRules E → StreamRules W E
rules_of writing held has_lost reporting = record { writing = writing; held = held; has_lost = has_lost; reporting = reporting }

-- Bytes are printed on standard output, or a text is reported as one line on standard error.
pub data Event : Type 0 where
  Printed : List ℕ → Event
  Reported : List ℕ → Event

-- One event. When a message is reported, all bytes printed before it are written, or were lost.
abbrev pub Emits : {W E : Type 0} → StreamRules W E → Event → Streams W E → Streams W E → Type 0
Emits rules (Printed bytes) old new =
    Took rules.writing bytes old.out new.out × Eprints rules.reporting [] (err_of old) (err_of new)
Emits rules (Reported text) old new =
    Took rules.writing [] old.out new.out × IsWritten rules.held rules.has_lost new.out
    × Eprints rules.reporting (one_line text) (err_of old) (err_of new)

-- The bytes that the output holds are written, or were lost, and nothing is printed or reported.
abbrev pub Releases : {W E : Type 0} → StreamRules W E → Streams W E → Streams W E → Type 0
Releases rules old new =
    Took rules.writing [] old.out new.out × IsWritten rules.held rules.has_lost new.out × (err_of new ≡ err_of old)

-- One event after another.
abbrev pub EmitsAll : {W E : Type 0} → StreamRules W E → List Event → Streams W E → Streams W E → Type 0
EmitsAll rules [] old new = (new.out ≡ old.out) × (err_of new ≡ err_of old)
EmitsAll {W} {E} rules (event ∷ events) old new =
    (mid : Streams W E) × Emits rules event old mid × EmitsAll rules events mid new

-- All events; or a write failed at the last, and a prefix of its line is printed.
abbrev pub EmitsTo : {W E T : Type 0} → StreamRules W E → List Event → Streams W E → Streams W E → Result T Stop → Type 0
EmitsTo rules events old new (Ok _) = EmitsAll rules events old new
EmitsTo {W} {E} rules events old new (Err WriteFailed) =
    (before : List Event) × (line : List ℕ) × (mid : Streams W E) × (events ≡ before ++ Printed line ∷ [])
    × EmitsAll rules before old mid × Refused rules.writing line mid.out new.out × (err_of new ≡ err_of mid)
EmitsTo rules events old new (Err OutOfMemory) = EmitsAll rules events old new

-- All events; or a write failed at the last; or memory ran out before the first.
abbrev pub EmitsOrNone : {W E T : Type 0} → StreamRules W E → List Event → Streams W E → Streams W E → Result T Stop → Type 0
EmitsOrNone rules events old new (Ok _) = EmitsAll rules events old new
EmitsOrNone rules events old new (Err WriteFailed) = EmitsTo {T = Unit {0}} rules events old new (Err WriteFailed)
EmitsOrNone rules events old new (Err OutOfMemory) = EmitsAll rules [] old new

-- A part of a run: the streams before and after it, and its result.
pub record Effect (W E : Type 0) : Type 1 where
  pub rules : StreamRules W E
  pub old : Streams W E
  pub new : Streams W E
  pub result : Result Bool Stop

abbrev pub effect_of : {W E : Type 0} → StreamRules W E → Streams W E → Streams W E → Result Bool Stop → Effect W E
effect_of rules old new result = record { rules = rules; old = old; new = new; result = result }

-- Exactly these events, up to a failed write.
abbrev pub HasEvents : {W E : Type 0} → Effect W E → List Event → Type 0
HasEvents effect events = EmitsTo effect.rules events effect.old effect.new effect.result

-- The same; or a write to standard output had failed before, and nothing is written.
abbrev pub EmitsUnlessFailed : {W E : Type 0} → Effect W E → List Event → Type 0
EmitsUnlessFailed effect events =
    HasEvents effect events
    ⊎ ((effect.rules.writing.has_failed effect.old.out ≡ true) × (effect.new.out ≡ effect.old.out)
    × (err_of effect.new ≡ err_of effect.old) × (effect.result ≡ Err WriteFailed))

-- The bytes that the events print.
abbrev pub printed_of : List Event → List ℕ
printed_of [] = []
printed_of (Printed bytes ∷ events) = bytes ++ printed_of events
printed_of (Reported text ∷ events) = printed_of events

-- The bytes that the events report.
abbrev pub reported_of : List Event → List ℕ
reported_of [] = []
reported_of (Printed bytes ∷ events) = reported_of events
reported_of (Reported text ∷ events) = one_line text ++ reported_of events
