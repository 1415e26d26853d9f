-- Lemmas on buffered lines and on the bytes of them that the inner sink has taken.
use Rattle.std.proofs.Common.{◌≡◌, ℕ, ◌<◌, false, List, [], ◌∷◌, ◌++◌, length, refl, sym, ap, subst, ◌∙◌, inl, inr, append-nil, append_assoc, Ok, Err, IfOk, OnErr, is_err, Result}
use Rattle.std.specs.List.{concat}
use Rattle.xxh_io.specs.declared.streams.Failed.{Failed}
use Rattle.xxh_io.specs.Digest.{Refused, Took}
use Rattle.xxh_io.specs.Waiting.{Gathers}
use Rattle.xxh_io.specs.Pieces.{Pieces}
use Rattle.xxh_io.specs.Rules.{SinkRules}
use Rattle.xxhsum_output.specs.WholeLines.{Passes, Reaches, RefusesLine, TakesPiece, behind, waiting_lines}
use Rattle.xxhsum_output.specs.declared.whole_lines.WholeLines.{WholeLines}
use Rattle.xxh_io.proofs.WriteFacts.{Refused-join, Refused-more, Took-join}

-- Lemma: all the lines are taken if the buffered lines are written.
all-taken : {W : Type 0} (writing : SinkRules W) (text waiting : List ℕ) (first old new : W) → Gathers writing text first old waiting → Took writing waiting old new → Took writing text first new
all-taken writing text waiting first old new gathers took =
    subst (λ bytes. Took writing bytes first new) gathers.2 (Took-join writing gathers.0 waiting first old new gathers.1 took)

all-refused : {W : Type 0} (writing : SinkRules W) (text waiting : List ℕ) (first old new : W) → Gathers writing text first old waiting → Refused writing waiting old new → Refused writing text first new
all-refused writing text waiting first old new gathers refused =
    subst (λ bytes. Refused writing bytes first new) gathers.2 (Refused-join writing gathers.0 waiting first old new gathers.1 refused)

took-one : {W : Type 0} (writing : SinkRules W) (piece : List ℕ) (old new : W) → writing.takes old piece new → Took writing piece old new
took-one writing piece old new takes = (piece ∷ [], (new, takes, refl), append-nil piece)

passes-on : {W : Type 0} (writing : SinkRules W) (text piece : List ℕ) (first : W) (old new : WholeLines W) → Gathers writing text first (behind old) (waiting_lines old)
    → Passes writing old piece new → Gathers writing (text ++ piece) first (behind new) (waiting_lines new)
passes-on writing text piece first old new gathers (inl (same, waits)) =
    let front = gathers.0 in
    (front, subst (λ met. Took writing front first met) (sym same) gathers.1, ap (λ bytes. front ++ bytes) waits ∙ sym (append_assoc front (waiting_lines old) piece) ∙ ap (λ bytes. bytes ++ piece) gathers.2)
passes-on writing text piece first old new gathers (inr (inl (took, waits))) =
    (text, all-taken writing text (waiting_lines old) first (behind old) (behind new) gathers took, ap (λ bytes. text ++ bytes) waits)
passes-on writing text piece first old new gathers (inr (inr (met, took, takes, waits))) =
    let before = all-taken writing text (waiting_lines old) first (behind old) met gathers took in
    (text ++ piece, Took-join writing text piece first met (behind new) before (took-one writing piece met (behind new) takes), ap (λ bytes. (text ++ piece) ++ bytes) waits ∙ append-nil (text ++ piece))

no-more : (text piece : List ℕ) → piece ≡ [] → text ≡ text ++ piece
no-more text piece none = sym (append-nil text) ∙ ap (λ bytes. text ++ bytes) (sym none)

reaches-on : {W : Type 0} (writing : SinkRules W) (text piece : List ℕ) (first : W) (old new : WholeLines W) → Reaches writing text first old → TakesPiece writing old piece new → Reaches writing (text ++ piece) first new
reaches-on writing text piece first old new (inl (works, gathers)) (inl (worked, works', passes)) =
    inl (works', passes-on writing text piece first old new gathers passes)
reaches-on writing text piece first old new (inl (works, gathers)) (inr (none, inl (failed, same))) = cc
reaches-on writing text piece first old new (inl (works, gathers)) (inr (none, inr (worked, failed, refused))) =
    inr (failed, subst (λ bytes. Refused writing bytes first (behind new)) (no-more text piece none) (all-refused writing text (waiting_lines old) first (behind old) (behind new) gathers refused))
reaches-on writing text piece first old new (inr (failed, refused)) (inl (worked, works', passes)) = cc
reaches-on writing text piece first old new (inr (failed, refused)) (inr (none, inl (failed', same))) =
    inr (ap writing.has_failed same ∙ failed, subst (λ bytes. Refused writing bytes first (behind new)) (no-more text piece none) (subst (λ met. Refused writing text first met) (sym same) refused))
reaches-on writing text piece first old new (inr (failed, refused)) (inr (none, inr (worked, failed', refused'))) = cc

reaches-all : {W : Type 0} (writing : SinkRules W) (text : List ℕ) (pieces : List (List ℕ)) (first : W) (old new : WholeLines W)
    → Reaches writing text first old → Pieces (TakesPiece writing) old pieces new → Reaches writing (text ++ concat pieces) first new
reaches-all writing text [] first old new reaches led =
    subst (λ met. Reaches writing (text ++ []) first met) (sym led) (subst (λ bytes. Reaches writing bytes first old) (sym (append-nil text)) reaches)
reaches-all writing text (piece ∷ pieces) first old new reaches led =
    let next = reaches-on writing text piece first old led.0 reaches led.1 in
    subst (λ bytes. Reaches writing bytes first new) (append_assoc text piece (concat pieces)) (reaches-all writing (text ++ piece) pieces first led.0 new next led.2)

-- Lemma: a sink with an empty buffer and no failed write has taken no bytes yet.
reaches-none : {W : Type 0} (writing : SinkRules W) (old : WholeLines W) → writing.has_failed (behind old) ≡ false → waiting_lines old ≡ [] → Reaches writing [] (behind old) old
reaches-none writing old works empty = inl (works, ([], ([], refl, refl), empty))

pub taken-reaches : {W : Type 0} (writing : SinkRules W) (bytes : List ℕ) (pieces : List (List ℕ)) (old new : WholeLines W) → writing.has_failed (behind old) ≡ false → waiting_lines old ≡ [] → Pieces (TakesPiece writing) old pieces new → concat pieces ≡ bytes → Reaches writing bytes (behind old) new
taken-reaches writing bytes pieces old new works empty led are =
    subst (λ all. Reaches writing all (behind old) new) are (reaches-all writing [] pieces (behind old) old new (reaches-none writing old works empty) led)

refused-behind : {W : Type 0} (writing : SinkRules W) (text bytes rest : List ℕ) (first : W) (old new : WholeLines W) → Reaches writing text first old
    → RefusesLine writing old new → bytes ≡ text ++ rest → 0 < length rest → Refused writing bytes first (behind new)
refused-behind writing text bytes rest first old new (inl (works, gathers)) (inl (inl (failed, same))) are some = cc
refused-behind writing text bytes rest first old new (inr (failed, refused)) (inl (inl (failed', same))) are some =
    subst (λ all. Refused writing all first (behind new)) (sym are) (Refused-more writing text rest first (behind new) (subst (λ met. Refused writing text first met) (sym same) refused))
refused-behind writing text bytes rest first old new (inl (works, gathers)) (inl (inr (worked, failed, refused))) are some =
    subst (λ all. Refused writing all first (behind new)) (sym are) (Refused-more writing text rest first (behind new) (all-refused writing text (waiting_lines old) first (behind old) (behind new) gathers refused))
refused-behind writing text bytes rest first old new (inr (failed, refused)) (inl (inr (worked, failed', refused'))) are some = cc
refused-behind writing text bytes rest first old new (inl (works, gathers)) (inr (worked, (met, took, refuses))) are some =
    let all = all-taken writing text (waiting_lines old) first (behind old) met gathers took in
    (all.0, met, all.1, refuses, (rest, are ∙ ap (λ front. front ++ rest) (sym all.2), some))
refused-behind writing text bytes rest first old new (inr (failed, refused)) (inr (worked, alone)) are some = cc

pub refused-reaches : {W : Type 0} (writing : SinkRules W) (bytes rest : List ℕ) (pieces : List (List ℕ)) (old met new : WholeLines W) → writing.has_failed (behind old) ≡ false → waiting_lines old ≡ [] → Pieces (TakesPiece writing) old pieces met → RefusesLine writing met new → bytes ≡ concat pieces ++ rest → 0 < length rest → Refused writing bytes (behind old) (behind new)
refused-reaches writing bytes rest pieces old met new works empty led refuses are some =
    refused-behind writing (concat pieces) bytes rest (behind old) met new (taken-reaches writing (concat pieces) pieces old met works empty led refl) refuses are some

-- Lemma: writing the buffered lines takes no bytes from the caller, even if the write fails.
pub released : {W : Type 0} (writing : SinkRules W) (old new : WholeLines W) (result : Result (Unit {0}) Failed) → writing.has_failed (behind old) ≡ false → IfOk result (λ _. Took writing (waiting_lines old) (behind old) (behind new)) → IfOk result (λ _. waiting_lines new ≡ []) → OnErr result (Refused writing (waiting_lines old) (behind old) (behind new)) → writing.has_failed (behind new) ≡ is_err result → (pieces : List (List ℕ)) × Pieces (TakesPiece writing) old pieces new × (concat pieces ≡ [])
released writing old new (Ok x) works written empty refused failed =
    ([] ∷ [], (new, inl (works, failed, inr (inl (written, empty))), refl), refl)
released writing old new (Err e) works written empty refused failed =
    ([] ∷ [], (new, inr (refl, inr (works, failed, refused)), refl), refl)
