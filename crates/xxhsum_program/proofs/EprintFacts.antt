-- Lemmas on messages that are followed by more messages.
use Rattle.std.proofs.Common.{◌≡◌, ◌↔◌, ℕ, Bool, true, false, List, [], ◌++◌, flat_map, refl, sym, ap, subst, append-nil, append_assoc, is_err, Ok, Err, IfErr, Result}
use Rattle.std.proofs.lemmas.List.Concat.{flat_map-append}
use Rattle.xxhsum_program.proofs.Prelude.{DigestError, Refused-more, SinkRules, EprintsLines, Eprints, TakesOrFails, Writes, Writes-join, one_line}
use Rattle.xxh_io.specs.declared.digest_error.DigestError.TheVariants.{ReadFailed, WriteFailed, TooLong}

-- Lemma: `a ++ b` is reported if `a` is reported and the sink has failed.
pub TakesOrFails-failed : {E : Type 0} (reporting : SinkRules E) (a b : List ℕ) (old new : E) → reporting.has_failed new ≡ true → TakesOrFails reporting a old new → TakesOrFails reporting (a ++ b) old new
TakesOrFails-failed reporting a b old new failed (Err WriteFailed, done, only, is) = (Err WriteFailed, Refused-more reporting a b old new done, only, is)
TakesOrFails-failed reporting a b old new failed (result, done, only, is) = cc

failed-is : (result : Result (Unit {0}) DigestError) (failed : Bool) → IfErr result (λ e. e ≡ WriteFailed) → ((result ≡ Err WriteFailed) ↔ (failed ≡ true)) → failed ≡ is_err result
failed-is (Ok x) true only says = let never = says.1 refl in cc
failed-is (Ok x) false only says = refl
failed-is (Err e) failed only says = says.0 (ap Err only)

-- Lemma: `a ++ b` is reported if `a` is reported and `b` is written to a sink that has not failed.
pub TakesOrFails-write : {E : Type 0} (reporting : SinkRules E) (a b : List ℕ) (old mid new : E) (result : Result (Unit {0}) DigestError) → reporting.has_failed mid ≡ false → TakesOrFails reporting a old mid → Writes reporting b mid new result → IfErr result (λ e. e ≡ WriteFailed) → ((result ≡ Err WriteFailed) ↔ (reporting.has_failed new ≡ true)) → TakesOrFails reporting (a ++ b) old new
TakesOrFails-write reporting a b old mid new result works (Ok x, done, only, is) writes fails says =
    (result, Writes-join reporting a b old mid new result fails done writes, fails, failed-is result (reporting.has_failed new) fails says)
TakesOrFails-write reporting a b old mid new result works (Err e, done, only, is) writes fails says = cc

-- ---- later messages

pub reports-nothing : {E : Type 0} (reporting : SinkRules E) (old : E) → Eprints reporting [] old old
reports-nothing reporting old = λ initial before message.
    subst (λ bytes. TakesOrFails reporting bytes initial old) (sym (append-nil before)) message

pub reports-more : {E : Type 0} (reporting : SinkRules E) (a b : List ℕ) (old mid new : E) → Eprints reporting a old mid → Eprints reporting b mid new → Eprints reporting (a ++ b) old new
reports-more reporting a b old mid new first second = λ initial before message.
    subst (λ bytes. TakesOrFails reporting bytes initial new) (append_assoc before a b) (second initial (before ++ a) (first initial before message))

pub lines-more : {E : Type 0} (reporting : SinkRules E) (a b : List (List ℕ)) (old mid new : E) → EprintsLines reporting a old mid → EprintsLines reporting b mid new → EprintsLines reporting (a ++ b) old new
lines-more reporting a b old mid new first second =
    subst (λ bytes. Eprints reporting bytes old new) (sym (flat_map-append one_line a b)) (reports-more reporting (flat_map one_line a) (flat_map one_line b) old mid new first second)
