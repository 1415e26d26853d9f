-- Lemmas on printing the report of an audit, up to a line that is not printed.
use Rattle.std.proofs.Common.{◌≡◌, ◌+◌, ◌<◌, Bool, drop, false, get_or, length, List, map, take, take-append-drop, [], ◌∷◌, ◌++◌, ℕ, append-nil, append_assoc, sym, ap, subst, ◌∙◌, Ok, Err, if◌then◌else◌, Result}
use Rattle.xxhsum_app.proofs.Prelude.{AnswersAudit, Classed, Found, PrintsLine, PrintsRemarks, PrintsReport, Refused-join, Refused-more, Remark, Took-join, Unreadable, counts_text, drop_more, flat_map-append, map-append, remarks_of, report_text, shown_text, shown_texts}
use Rattle.xxhsum_app.specs.Prelude.{Options, OutOfMemory, Refused, SinkRules, Stop, Took, WriteFailed}

-- Lemma: one more result appends its text.
pub shown-push : (options : Options) (remarks : List Remark) (one : Remark) → shown_texts options (remarks ++ one ∷ []) ≡ shown_texts options remarks ++ shown_text options one
shown-push options remarks one =
    flat_map-append (shown_text options) remarks (one ∷ []) ∙ ap (λ x. shown_texts options remarks ++ x) (append-nil (shown_text options one))

-- Lemma: the texts of results are those before a result, its text, and those after it.
around : (options : Options) (all before behind : List Remark) (one : Remark) → all ≡ before ++ one ∷ behind
    → shown_texts options all ≡ (shown_texts options before ++ shown_text options one) ++ shown_texts options behind
around options all before behind one parts =
    ap (shown_texts options) parts ∙ flat_map-append (shown_text options) before (one ∷ behind) ∙ sym (append_assoc (shown_texts options before) (shown_text options one) (shown_texts options behind))

-- Lemma: printing stops at a text that is refused, or for which there is no memory.
pub stops-in-text : {W : Type 0} (writing : SinkRules W) (options : Options) (all before behind : List Remark) (one : Remark) (old mid new : W) (stop : Stop) → all ≡ before ++ one ∷ behind → Took writing (shown_texts options before) old mid → PrintsLine {T = Unit {0}} writing (shown_text options one) mid new (Err stop) → PrintsRemarks writing options all old new (Err stop)
stops-in-text writing options all before behind one old mid new WriteFailed parts took refused =
    subst (λ text. Refused writing text old new) (sym (around options all before behind one parts))
    (Refused-more writing _ _ old new (Refused-join writing _ _ old mid new took refused))
stops-in-text writing options all before behind one old mid new OutOfMemory parts took same =
    (before, one ∷ behind, parts, subst (λ w. Took writing (shown_texts options before) old w) (sym same) took)

whole : (options : Options) (found : List Found) (unread : List (List ℕ)) → options.is_status_only ≡ false → report_text options found unread ≡ shown_texts options (remarks_of found unread) ++ counts_text options found unread
whole options found unread speaks =
    ap (λ silent. if silent then [] else shown_texts options (remarks_of found unread) ++ counts_text options found unread) speaks

-- The texts of two lists of results, with the counts behind.
abbrev Parts : Options → List Found → List (List ℕ) → Type 0
Parts options found unread = report_text options found unread ≡ shown_texts options (map Classed found) ++ (shown_texts options (map Unreadable unread) ++ counts_text options found unread)

parts-of : (options : Options) (found : List Found) (unread : List (List ℕ)) → options.is_status_only ≡ false → Parts options found unread
parts-of options found unread speaks =
    whole options found unread speaks
    ∙ ap (λ x. x ++ counts_text options found unread) (flat_map-append (shown_text options) (map Classed found) (map Unreadable unread))
    ∙ append_assoc (shown_texts options (map Classed found)) (shown_texts options (map Unreadable unread)) (counts_text options found unread)

-- A report of these results.
module _ {W : Type 0} (T : Type 0) (writing : SinkRules W) (options : Options) (found : List Found) (unread : List (List ℕ)) (speaks : options.is_status_only ≡ false) where
  abbrev front : List Remark
  front = map Classed found

  abbrev back : List Remark
  back = map Unreadable unread

  -- Lemma: a report stops in its verdicts.
  pub stops-in-front : (old new : W) (stop : Stop) → PrintsRemarks writing options front old new (Err stop) → PrintsReport {T = T} writing options found unread old new (Err stop)
  stops-in-front old new WriteFailed refused =
      subst (λ text. Refused writing text old new) (sym (parts-of options found unread speaks)) (Refused-more writing _ _ old new refused)
  stops-in-front old new OutOfMemory (done, rest, is, took) =
      (done, rest ++ back, ap (λ x. x ++ back) is ∙ append_assoc done rest back, took)

  -- Lemma: a report stops in its unreadable names.
  pub stops-in-back : (old mid new : W) (stop : Stop) → Took writing (shown_texts options front) old mid → PrintsRemarks writing options back mid new (Err stop) → PrintsReport {T = T} writing options found unread old new (Err stop)
  stops-in-back old mid new WriteFailed took refused =
      subst (λ text. Refused writing text old new) (sym (parts-of options found unread speaks))
      (Refused-join writing _ _ old mid new took (Refused-more writing _ _ mid new refused))
  stops-in-back old mid new OutOfMemory took (done, rest, is, more) = (
    front ++ done,
    rest,
    ap (λ x. front ++ x) is ∙ sym (append_assoc front done rest),
    subst (λ text. Took writing text old new) (sym (flat_map-append (shown_text options) front done)) (Took-join writing _ _ old mid new took more),
  )

  -- Lemma: a report stops after all its results if there is no memory for the counts.
  pub stops-in-counts : (old mid new : W) → Took writing (shown_texts options front) old mid → Took writing (shown_texts options back) mid new → PrintsReport {T = T} writing options found unread old new (Err OutOfMemory)
  stops-in-counts old mid new took more = (
    remarks_of found unread,
    [],
    sym (append-nil _),
    subst (λ text. Took writing text old new) (sym (flat_map-append (shown_text options) front back)) (Took-join writing _ _ old mid new took more),
  )

-- Lemma: a report has the result of the write of its counts, after all its results.
pub ends-in-counts : {W : Type 0} (writing : SinkRules W) (options : Options) (found : List Found) (unread : List (List ℕ)) (speaks : options.is_status_only ≡ false) (old mid met new : W) (result : Result (Unit {0}) Stop) → Took writing (shown_texts options (map Classed found)) old mid → Took writing (shown_texts options (map Unreadable unread)) mid met
    → PrintsLine writing (counts_text options found unread) met new result → PrintsReport writing options found unread old new result
ends-in-counts writing options found unread speaks old mid met new (Ok x) took more counts =
    subst (λ text. Took writing text old new) (sym (parts-of options found unread speaks)) (Took-join writing _ _ old mid new took (Took-join writing _ _ mid met new more counts))
ends-in-counts writing options found unread speaks old mid met new (Err WriteFailed) took more refused =
    subst (λ text. Refused writing text old new) (sym (parts-of options found unread speaks)) (Refused-join writing _ _ old mid new took (Refused-join writing _ _ mid met new more refused))
ends-in-counts writing options found unread speaks old mid met new (Err OutOfMemory) took more same =
    stops-in-counts (Unit {0}) writing options found unread speaks old mid new took (subst (λ w. Took writing (shown_texts options (map Unreadable unread)) mid w) (sym same) more)

-- Lemma: a report that stops is the same for any type of result.
pub report-stops : {W U : Type 0} (T : Type 0) (writing : SinkRules W) (options : Options) (found : List Found) (unread : List (List ℕ)) (old new : W) (stop : Stop) (result : Result U Stop) → result ≡ Err stop → PrintsReport {T = T} writing options found unread old new (Err stop) → PrintsReport {T = U} writing options found unread old new result
report-stops {W} {U} T writing options found unread old new WriteFailed result is prints = subst (λ (r : Result U Stop). PrintsReport writing options found unread old new r) (sym is) prints
report-stops {W} {U} T writing options found unread old new OutOfMemory result is prints = subst (λ (r : Result U Stop). PrintsReport writing options found unread old new r) (sym is) prints

pub remarks-stop : {W : Type 0} (writing : SinkRules W) (options : Options) (remarks : List Remark) (old new : W) (stop : Stop) (result : Result (Unit {0}) Stop) → result ≡ Err stop → PrintsRemarks writing options remarks old new (Err stop) → PrintsRemarks writing options remarks old new result
remarks-stop writing options remarks old new stop result is prints = subst (λ (r : Result (Unit {0}) Stop). PrintsRemarks writing options remarks old new r) (sym is) prints

pub stop-answers : (found : List Found) (unread : List (List ℕ)) (stop : Stop) (result : Result Bool Stop) → result ≡ Err stop → AnswersAudit found unread result
stop-answers found unread stop result is = subst (AnswersAudit found unread) (sym is) tt

-- Lemma: a mapped list is the elements before an index, the element there and those after it, each mapped.
pub map-at : {A B : Type 0} (f : A → B) (xs : List A) (k : ℕ) (d : A) → k < length xs → map f xs ≡ map f (take k xs) ++ f (get_or xs k d) ∷ map f (drop (k + 1) xs)
map-at f xs k d within =
    ap (map f) (sym (take-append-drop k xs) ∙ ap (λ rest. take k xs ++ rest) (drop_more xs k d within)) ∙ map-append f (take k xs) (get_or xs k d ∷ drop (k + 1) xs)
