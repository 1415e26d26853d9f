-- Lemmas on a hashing run, at a name and where it stops.
use Rattle.std.proofs.Common.{◌≡◌, ℕ, Bool, false, List, [], ◌∷◌, ◌++◌, refl, sym, ap, ◌∙◌, subst, append-nil, append_assoc, Ok, Err, Result, IsErrAnd}
use Rattle.xxhsum_program.specs.Prelude.{Digested, EachHas, Eprints, EprintsLines, IsDirectory, Kind, OutOfMemory, Outcome, Refusal, SinkRules, Stop, Style, Took, Unread, WriteFailed}
use Rattle.xxh_io.specs.Refusal.{refusal_text}
use Rattle.xxh_io.specs.declared.digest_error.DigestError.{DigestError}
use Rattle.xxh_io.specs.declared.digest_error.DigestError.TheVariants as Of
use Rattle.xxhsum_program.proofs.Prelude.{EmitsAll, EmitsOrNone, EmitsTo, EndsWith, IsWritten, PrintsLine, StreamRules, Streams, error_text, input_events, is_digested, lines_of, name_events, name_messages, reason_of, reason_text, streams_of, styled_line}
use Rattle.xxhsum_program.proofs.OrderFacts.{emits-append, emits-join}
use Rattle.xxhsum_program.proofs.EachFacts.{EachHas-push}
use Rattle.xxhsum_program.proofs.OutcomeFacts.{lines-push}

pub is-err : {T : Type 0} (result : Result T Stop) (stop : Stop) → IsErrAnd result (λ e. e ≡ stop) → result ≡ Err stop
is-err (Ok x) stop is = absurd is
is-err (Err e) stop is = ap Err is

-- Lemma: the reason as text is the system's message, if a read failed.
pub reason-says : (e : DigestError) (refusal : Refusal) → reason_text (reason_of e refusal) ≡ error_text e (refusal_text refusal)
reason-says Of.ReadFailed refusal = refl
reason-says Of.WriteFailed refusal = refl
reason-says Of.TooLong refusal = refl

one-message : {E : Type 0} (reporting : SinkRules E) (bytes : List ℕ) (old new : E) → Eprints reporting (bytes ++ []) old new → Eprints reporting bytes old new
one-message reporting bytes old new = subst (λ b. Eprints reporting b old new) (append-nil bytes)

-- Lemma: a name without a value has its message, after the output.
pub emits_message : {W E : Type 0} (rules : StreamRules W E) (kind : Kind) (style : Style) (name : List ℕ) (outcome : Outcome) (old new : Streams W E) → is_digested outcome ≡ false → Took rules.writing [] old.out new.out × IsWritten rules.held rules.has_lost new.out × EprintsLines rules.reporting (name_messages name outcome) old.err new.err → EmitsAll rules (name_events kind style name outcome) old new
emits_message rules kind style name (Digested value) old new none emits = cc
emits_message rules kind style name IsDirectory old new none (took, written, reports) = (new, (took, written, one-message rules.reporting _ old.err new.err reports), (refl, refl))
emits_message rules kind style name (Unread reason) old new none (took, written, reports) = (new, (took, written, one-message rules.reporting _ old.err new.err reports), (refl, refl))

-- Lemma: a run stops at a name whose line can't be written.
pub names-stop : {W E : Type 0} (rules : StreamRules W E) (comes : List ℕ → Outcome → Type 0) (kind : Kind) (style : Style) (all names after : List (List ℕ)) (outcomes : List Outcome) (name : List ℕ) (outcome : Outcome) (old mid new : Streams W E) (stop : Stop)
    → all ≡ names ++ name ∷ after → EachHas comes names outcomes → comes name outcome → EmitsAll rules (lines_of (name_events kind style) names outcomes) old mid → EmitsOrNone {T = Unit {0}} rules (name_events kind style name outcome) mid new (Err stop)
    → (done_outcomes : List Outcome) × (done rest : List (List ℕ)) × (all ≡ done ++ rest) × EachHas comes done done_outcomes × EndsWith rest done_outcomes (Err stop) × EmitsTo {T = Bool} rules (lines_of (name_events kind style) done done_outcomes) old new (Err stop)
names-stop rules comes kind style all names after outcomes name outcome old mid new OutOfMemory parts each came emits none =
    (outcomes, names, name ∷ after, parts, each, tt, subst (λ events. EmitsAll rules events old new) (append-nil _) (emits-append rules _ [] old mid new emits none))
names-stop rules comes kind style all names after outcomes name outcome old mid new WriteFailed parts each came emits refused = (
  outcomes ++ outcome ∷ [],
  names ++ name ∷ [],
  after,
  parts ∙ sym (append_assoc names (name ∷ []) after),
  EachHas-push comes names outcomes name outcome each came,
  tt,
  subst (λ events. EmitsTo {T = Bool} rules events old new (Err WriteFailed)) (sym (lines-push comes (name_events kind style) names outcomes name outcome each)) (emits-join {T = Bool} rules _ _ old mid new (Err WriteFailed) emits refused),
)

-- Lemma: the line of standard input can't be written.
pub input-stops : {W E : Type 0} (rules : StreamRules W E) (kind : Kind) (style : Style) (name : List ℕ) (value hash : ℕ) (old : Streams W E) (new : W) (stop : Stop) → PrintsLine {T = Unit {0}} rules.writing (styled_line kind style value name) old.out new (Err stop) → EmitsTo {T = Bool} rules (input_events kind style name value [] (Ok hash) (Err stop)) old (streams_of new old.err) (Err stop)
input-stops rules kind style name value hash old new WriteFailed refused =
    ([], styled_line kind style value name, old, refl, (refl, refl), refused, refl)
input-stops rules kind style name value hash old new OutOfMemory same = (same, refl)
