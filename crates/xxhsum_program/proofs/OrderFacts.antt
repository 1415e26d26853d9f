-- Lemmas on events of both streams.
use Rattle.std.proofs.Common.{◌≡◌, ℕ, List, [], ◌∷◌, ◌++◌, refl, sym, ap, ◌∙◌, subst, append-nil, append_assoc, Ok, Err, IfErr, Result}
use Rattle.xxhsum_program.proofs.Prelude.{Eprints, OutOfMemory, PrintsLine, Refused, Refused-join, Stop, Streams, Took, Took-join, WriteFailed, one_line, streams_of}
use Rattle.xxhsum_program.specs.Order.{Emits, EmitsAll, EmitsOrNone, EmitsTo, Event, Printed, Reported, StreamRules, printed_of, reported_of}
use Rattle.xxhsum_program.proofs.EprintFacts.{reports-more, reports-nothing}

emits-from : {W E : Type 0} (rules : StreamRules W E) (event : Event) (old mid new : Streams W E) → mid.out ≡ old.out → mid.err ≡ old.err → Emits rules event mid new → Emits rules event old new
emits-from rules (Printed bytes) old mid new out err emits = rw (sym out, sym err) emits
emits-from rules (Reported text) old mid new out err emits = rw (sym out, sym err) emits

-- ---- events after others

pub emits-append : {W E : Type 0} (rules : StreamRules W E) (a b : List Event) (old mid new : Streams W E) → EmitsAll rules a old mid → EmitsAll rules b mid new → EmitsAll rules (a ++ b) old new
emits-append rules [] [] old mid new first second = (second.0 ∙ first.0, second.1 ∙ first.1)
emits-append rules [] (event ∷ events) old mid new first (met, emits, rest) =
    (met, emits-from rules event old mid met first.0 first.1 emits, rest)
emits-append rules (event ∷ events) b old mid new (met, emits, rest) second =
    (met, emits, emits-append rules events b met mid new rest second)

pub emits-join : {W E T : Type 0} (rules : StreamRules W E) (a b : List Event) (old mid new : Streams W E) (result : Result T Stop) → EmitsAll rules a old mid → EmitsTo rules b mid new result → EmitsTo rules (a ++ b) old new result
emits-join rules a b old mid new (Ok x) first second = emits-append rules a b old mid new first second
emits-join rules a b old mid new (Err WriteFailed) first (before, line, met, is, emits, refused, same) =
    (a ++ before, line, met, ap (λ (events : List Event). a ++ events) is ∙ sym (append_assoc a before (Printed line ∷ [])), emits-append rules a before old mid met first emits, refused, same)
emits-join rules a b old mid new (Err OutOfMemory) first second = emits-append rules a b old mid new first second

-- Lemma: no event follows a run that stops.
pub emits-stop : {W E : Type 0} (S T : Type 0) (rules : StreamRules W E) (events : List Event) (old new : Streams W E) (stop : Stop) → EmitsTo {T = S} rules events old new (Err stop) → EmitsTo {T = T} rules (events ++ []) old new (Err stop)
emits-stop S T rules events old new WriteFailed emits =
    subst (λ all. EmitsTo {T = T} rules all old new (Err WriteFailed)) (sym (append-nil events)) emits
emits-stop S T rules events old new OutOfMemory emits =
    subst (λ all. EmitsTo {T = T} rules all old new (Err OutOfMemory)) (sym (append-nil events)) emits

-- ---- one event

-- Lemma: a line that is printed is one event.
pub emits-line : {W E T : Type 0} (rules : StreamRules W E) (line : List ℕ) (old : Streams W E) (out : W) (result : Result T Stop) → PrintsLine rules.writing line old.out out result → IfErr result (λ stop. stop ≡ WriteFailed) → EmitsTo rules (Printed line ∷ []) old (streams_of out old.err) result
emits-line rules line old out (Ok x) prints only =
    (streams_of out old.err, (prints, reports-nothing rules.reporting old.err), (refl, refl))
emits-line rules line old out (Err WriteFailed) prints only = ([], line, old, refl, (refl, refl), prints, refl)
emits-line rules line old out (Err OutOfMemory) prints only = cc

-- Lemma: the same for a line for which memory may run out.
pub emits-line-or-none : {W E T : Type 0} (rules : StreamRules W E) (line : List ℕ) (old : Streams W E) (out : W) (result : Result T Stop)
    → PrintsLine rules.writing line old.out out result → EmitsOrNone rules (Printed line ∷ []) old (streams_of out old.err) result
emits-line-or-none rules line old out (Ok x) prints = emits-line rules line old out (Ok x) prints tt
emits-line-or-none rules line old out (Err WriteFailed) prints = emits-line {T = Unit {0}} rules line old out (Err WriteFailed) prints refl
emits-line-or-none rules line old out (Err OutOfMemory) same = (same, refl)

-- ---- each stream

pub emits-prints : {W E : Type 0} (rules : StreamRules W E) (events : List Event) (old new : Streams W E) → EmitsAll rules events old new → Took rules.writing (printed_of events) old.out new.out
emits-prints rules [] old new same = ([], same.0, refl)
emits-prints rules (Printed bytes ∷ events) old new (mid, emits, rest) =
    Took-join rules.writing bytes (printed_of events) old.out mid.out new.out emits.0 (emits-prints rules events mid new rest)
emits-prints rules (Reported text ∷ events) old new (mid, emits, rest) =
    Took-join rules.writing [] (printed_of events) old.out mid.out new.out emits.0 (emits-prints rules events mid new rest)

pub emits-reports : {W E : Type 0} (rules : StreamRules W E) (events : List Event) (old new : Streams W E) → EmitsAll rules events old new → Eprints rules.reporting (reported_of events) old.err new.err
emits-reports rules [] old new same =
    subst (λ err. Eprints rules.reporting [] old.err err) (sym same.1) (reports-nothing rules.reporting old.err)
emits-reports rules (Printed bytes ∷ events) old new (mid, emits, rest) =
    reports-more rules.reporting [] (reported_of events) old.err mid.err new.err emits.1 (emits-reports rules events mid new rest)
emits-reports rules (Reported text ∷ events) old new (mid, emits, rest) =
    reports-more rules.reporting (one_line text) (reported_of events) old.err mid.err new.err emits.2 (emits-reports rules events mid new rest)

printed-append : (a : List Event) (line : List ℕ) → printed_of (a ++ Printed line ∷ []) ≡ printed_of a ++ line
printed-append [] line = append-nil line
printed-append (Printed bytes ∷ a) line =
    ap (λ (rest : List ℕ). bytes ++ rest) (printed-append a line) ∙ sym (append_assoc bytes (printed_of a) line)
printed-append (Reported text ∷ a) line = printed-append a line

reported-append : (a : List Event) (line : List ℕ) → reported_of (a ++ Printed line ∷ []) ≡ reported_of a
reported-append [] line = refl
reported-append (Printed bytes ∷ a) line = reported-append a line
reported-append (Reported text ∷ a) line = ap (λ (rest : List ℕ). one_line text ++ rest) (reported-append a line)

-- Lemma: if a write failed, a prefix of the printed bytes is written, and all messages are.
pub emits-refuses : {W E : Type 0} (T : Type 0) (rules : StreamRules W E) (events : List Event) (old new : Streams W E) → EmitsTo {T = T} rules events old new (Err WriteFailed) → Refused rules.writing (printed_of events) old.out new.out × Eprints rules.reporting (reported_of events) old.err new.err
emits-refuses T rules events old new (before, line, mid, is, emits, refused, same) =
    let printed : printed_of events ≡ printed_of before ++ line = ap printed_of is ∙ printed-append before line in
    let reported : reported_of events ≡ reported_of before = ap reported_of is ∙ reported-append before line in (
      subst (λ bytes. Refused rules.writing bytes old.out new.out) (sym printed) (Refused-join rules.writing (printed_of before) line old.out mid.out new.out (emits-prints rules before old mid emits) refused),
      subst (λ err. Eprints rules.reporting (reported_of events) old.err err) (sym same) (subst (λ bytes. Eprints rules.reporting bytes old.err mid.err) (sym reported) (emits-reports rules before old mid emits)),
    )
