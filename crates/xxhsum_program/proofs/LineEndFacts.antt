-- A line that is written in two parts, of which either may be refused.
use Rattle.std.proofs.Common.{◌≡◌, ◌≢◌, ℕ, ◌<◌, List, [], ◌∷◌, ◌++◌, Bool, true, false, Ok, Err, IfErr, nat_eq, ◌||◌, refl, sym, subst, if◌then◌else◌, arith, append-nil, ap, ◌∙◌, Result}
use Rattle.xxhsum_program.specs.Prelude.{Options, OutOfMemory, Report, SinkRules, Stop, Took, WriteFailed, concat}
use Rattle.xxhsum_program.proofs.Prelude.{Emits, EmitsTo, Printed, PrintsLine, Refused-join, Refused-more, Reported, StreamRules, Streams, Took-join, is_unverified, streams_of}
use Rattle.xxhsum_program.specs.ListMessages.{different_counted, improper_counted, no_line_text, printed_summary, summary_events, summary_text, unread_counted, unverified_line, unverified_text}
use Rattle.xxhsum_program.specs.Report.{has_no_line}
use Rattle.xxhsum_program.proofs.OrderFacts.{emits-join, emits-line}

-- Lemma: a line is refused if its first part is refused.
pub line_more : {W T : Type 0} (writing : SinkRules W) (a b : List ℕ) (old new : W) (result : Result T Stop) (stop : Stop) → result ≡ Err stop
    → stop ≡ WriteFailed → PrintsLine {T = T} writing a old new (Err stop) → PrintsLine writing (a ++ b) old new result
line_more writing a b old new (Err WriteFailed) WriteFailed is only prints = Refused-more writing a b old new prints
line_more writing a b old new result stop is only prints = cc

-- Lemma: a line has the result of its second part if its first part was taken.
pub line_join : {W T : Type 0} (writing : SinkRules W) (a b : List ℕ) (old mid new : W) (result : Result T Stop) → Took writing a old mid
    → IfErr result (λ stop. stop ≡ WriteFailed) → PrintsLine writing b mid new result → PrintsLine writing (a ++ b) old new result
line_join writing a b old mid new (Ok x) took only prints = Took-join writing a b old mid new took prints
line_join writing a b old mid new (Err WriteFailed) took only prints = Refused-join writing a b old mid new took prints
line_join writing a b old mid new (Err OutOfMemory) took only prints = cc

-- ---- the end of a list

one-of : (count : ℕ) (silent : Bool) (text : List ℕ) → count ≢ 0 → silent ≡ false → (if nat_eq count 0 || silent then [] else text) ≡ text
one-of count silent text some speaks = rw speaks (grind arith)

pub summary-is : (options : Options) (report : Report) → report.proper ≢ 0 → options.is_status_only ≡ false → printed_summary options report ≡ improper_counted report.improper ++ (unread_counted report.unread ++ different_counted report.different)
summary-is options report some speaks =
    let improper = improper_counted report.improper in
    let unread = unread_counted report.unread in
    let different = different_counted report.different in
    one-of report.proper options.is_status_only (concat (improper ∷ unread ∷ different ∷ [])) some speaks ∙ ap (λ bytes. improper ++ (unread ++ bytes)) (append-nil different)

-- Lemma: a list without a well-formed line is reported, and then its summary is printed.
pub summary-reported : {W E T : Type 0} (rules : StreamRules W E) (options : Options) (list : List ℕ) (report : Report) (old met : Streams W E) (out : W) (result : Result T Stop)
    → has_no_line report ≡ true → Emits rules (Reported (no_line_text list)) old met → PrintsLine rules.writing (summary_text options list report) met.out out result → IfErr result (λ stop. stop ≡ WriteFailed)
    → EmitsTo rules (summary_events options list report) old (streams_of out met.err) result
summary-reported rules options list report old met out result none emits prints only =
    let events : summary_events options list report ≡ Reported (no_line_text list) ∷ Printed (summary_text options list report) ∷ [] = rw none refl in
    subst (λ all. EmitsTo rules all old (streams_of out met.err) result) (sym events)
    (emits-join rules (Reported (no_line_text list) ∷ []) (Printed (summary_text options list report) ∷ []) old met (streams_of out met.err) result (met, emits, (refl, refl)) (emits-line rules (summary_text options list report) met out result prints only))

-- Lemma: the summary of any other list is printed.
pub summary-printed : {W E T : Type 0} (rules : StreamRules W E) (options : Options) (list : List ℕ) (report : Report) (old : Streams W E) (out : W) (result : Result T Stop)
    → has_no_line report ≡ false → PrintsLine rules.writing (summary_text options list report) old.out out result → IfErr result (λ stop. stop ≡ WriteFailed)
    → EmitsTo rules (summary_events options list report) old (streams_of out old.err) result
summary-printed rules options list report old out result some prints only =
    let events : summary_events options list report ≡ Printed (summary_text options list report) ∷ [] = rw some refl in
    subst (λ all. EmitsTo rules all old (streams_of out old.err) result) (sym events) (emits-line rules (summary_text options list report) old out result prints only)

pub unverified_is : (options : Options) (list : List ℕ) (report : Report) → is_unverified options.ignores_missing report ≡ true → unverified_text options list report ≡ unverified_line list
unverified_is options list report is = rw is refl
