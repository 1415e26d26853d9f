-- Lemmas on the check of a list, at the lines where it stops and at its end.
use Rattle.std.proofs.Common.{◌≡◌, ℕ, ◌+◌, Bool, false, List, [], ◌∷◌, ◌++◌, length, Option, Some, None, Ok, Err, refl, sym, subst, inl, Result}
use Rattle.xxhsum_program.specs.Prelude.{EachHas, Found, Options, OutOfMemory, Report, SourceRules, Stop, WriteFailed, one_line}
use Rattle.xxhsum_program.proofs.Prelude.{EmitsAll, EmitsTo, Finding, Lines, ListEnd, PrintsLine, Proper, StreamRules, Streams, count_proper, passes, streams_of}
use Rattle.xxhsum_program.specs.CheckList.{AnswersList, AnswersOutcome, Checked, ChecksLine, FindsLines, ReportsLines, line_check}
use Rattle.xxhsum_program.specs.ListMessages.{break_events, finding_events, found_text, is_silent, lines_events, list_events, numbered, summary_events}
use Rattle.xxhsum_program.proofs.CheckFacts.{Stands, some-read}
use Rattle.xxhsum_program.proofs.EachFacts.{EachHas-push}
use Rattle.xxhsum_program.proofs.ListMessageFacts.{numbered-push}
use Rattle.xxhsum_program.proofs.OrderFacts.{emits-append, emits-join, emits-line, emits-stop}

-- The clauses of `check_lines` and of `check`.
abbrev pub LinesChecked : {R W E : Type 0} → (List ℕ → Finding → Type 0) → SourceRules R → StreamRules W E → Options → List ℕ → R → Streams W E → Streams W E → Result Report Stop → Type 0
LinesChecked is_finding reading rules options list source old new result =
    (findings : List Finding) × (end : Option ListEnd) × FindsLines is_finding reading source findings end
    × ReportsLines options.ignores_missing findings end result
    × EmitsTo rules (lines_events options list findings end) old new result

abbrev pub ListChecked : {R W E : Type 0} → (List ℕ → Finding → Type 0) → SourceRules R → StreamRules W E → Options → List ℕ → R → Streams W E → Streams W E → Result Bool Stop → Type 0
ListChecked is_finding reading rules options list source old new result =
    (findings : List Finding) × (end : Option ListEnd) × FindsLines is_finding reading source findings end
    × AnswersList options findings end result
    × EmitsTo rules (list_events options list findings end) old new result

-- ---- a line

-- Lemma: a file's result is printed, unless the run stops.
pub line-entries : {W E : Type 0} (is_finding : Finding → Type 0) (rules : StreamRules W E) (options : Options) (list : List ℕ) (number : ℕ) (name shown : List ℕ) (found : Found) (r_old r_new : Report) (old : Streams W E) (out : W) (result : Result (Unit {0}) Stop)
    → is_silent options found ≡ false → shown ≡ name → is_finding (Proper name found) → r_new ≡ count_proper options.ignores_missing r_old found → PrintsLine rules.writing (one_line (found_text list number shown found)) old.out out result
    → ChecksLine is_finding (line_check options list number r_old r_new) rules old (streams_of out old.err) result
line-entries is_finding rules options list number name shown found r_old r_new old out (Ok x) speaks same is counted prints =
    (Proper name found, is, counted, rw speaks (emits-line {T = Unit {0}} rules _ old out (Ok tt) (rw same at prints) tt))
line-entries is_finding rules options list number name shown found r_old r_new old out (Err WriteFailed) speaks same is counted prints =
    (Proper name found, is, rw speaks (emits-line {T = Unit {0}} rules _ old out (Err WriteFailed) (rw same at prints) refl))
line-entries is_finding rules options list number name shown found r_old r_new old out (Err OutOfMemory) speaks same is counted prints = (prints, refl)

-- ---- a line at which the check stops

pub lines-stop : {R X W E : Type 0} (is_finding : List ℕ → Finding → Type 0) (reading : SourceRules R) (rules : StreamRules W E) (options : Options) (list : List ℕ) (source : R) (old mid new : Streams W E) (before after : Lines R X) (read : List (List ℕ)) (findings : List Finding) (line : List ℕ) (number : ℕ) (r_old r_new : Report) (stop : Stop)
    → EachHas is_finding read findings → Stands reading source before read → Stands reading source after (read ++ line ∷ []) → number ≡ 1 + length findings
    → EmitsAll rules (numbered (finding_events options list) 1 findings) old mid
    → ChecksLine (is_finding line) (line_check options list number r_old r_new) rules mid new (Err stop)
    → LinesChecked is_finding reading rules options list source old new (Err stop)
lines-stop is_finding reading rules options list source old mid new before after read findings line number r_old r_new OutOfMemory each stood stands count emits none = (
  findings,
  None,
  (read, each, some-read reading source before read stood),
  refl,
  emits-append rules (numbered (finding_events options list) 1 findings) [] old mid new emits none,
)
lines-stop is_finding reading rules options list source old mid new before after read findings line number r_old r_new WriteFailed each stood stands count emits (finding, is, refused) =
    let events = finding_events options list in
    let all = numbered-push events 1 findings finding number count in (
      findings ++ finding ∷ [],
      None,
      (read ++ line ∷ [], EachHas-push is_finding read findings line finding each is, some-read reading source after (read ++ line ∷ []) stands),
      refl,
      emits-stop (Unit {0}) Report rules (numbered events 1 (findings ++ finding ∷ [])) old new WriteFailed (subst (λ all. EmitsTo {T = Unit {0}} rules all old new (Err WriteFailed)) (sym all) (emits-join {T = Unit {0}} rules (numbered events 1 findings) (events number finding) old mid new (Err WriteFailed) emits refused)),
    )

-- Lemma: the events of the end of a list, with equal numbers.
pub emits-break : {W E : Type 0} (rules : StreamRules W E) (list : List ℕ) (end : ListEnd) (m n : ℕ) (old new : Streams W E) → m ≡ n
    → EmitsAll rules (break_events list m end) old new → EmitsAll rules (break_events list n end) old new
emits-break rules list end m n old new numbers emits = subst (λ k. EmitsAll rules (break_events list k end) old new) numbers emits

-- ---- after the lines

-- Lemma: out of memory before the first line.
pub check-begins-not : {R W E : Type 0} (is_finding : List ℕ → Finding → Type 0) (reading : SourceRules R) (rules : StreamRules W E) (options : Options) (list : List ℕ) (source : R) (here : Streams W E)
    → ListChecked is_finding reading rules options list source here here (Err OutOfMemory)
check-begins-not is_finding reading rules options list source here =
    ([], None, ([], tt, (false, [], ([], source, tt, refl, inl (tt, refl)))), tt, (refl, refl))

-- Lemma: out of memory before the first line is read.
pub lines-begin-not : {R W E : Type 0} (is_finding : List ℕ → Finding → Type 0) (reading : SourceRules R) (rules : StreamRules W E) (options : Options) (list : List ℕ) (source : R) (here : Streams W E)
    → LinesChecked is_finding reading rules options list source here here (Err OutOfMemory)
lines-begin-not is_finding reading rules options list source here =
    ([], None, ([], tt, (false, [], ([], source, tt, refl, inl (tt, refl)))), refl, (refl, refl))

-- Lemma: the check stops before its end.
pub check-stops : {R W E : Type 0} (is_finding : List ℕ → Finding → Type 0) (reading : SourceRules R) (rules : StreamRules W E) (options : Options) (list : List ℕ) (source : R) (old new : Streams W E) (stop : Stop)
    → LinesChecked is_finding reading rules options list source old new (Err stop)
    → ListChecked is_finding reading rules options list source old new (Err stop)
check-stops is_finding reading rules options list source old new stop (findings, None, finds, is, emits) =
    (findings, None, finds, tt, emits-stop Report Bool rules (lines_events options list findings None) old new stop emits)
check-stops is_finding reading rules options list source old new stop (findings, Some end, finds, is, emits) = cc

-- Lemma: the check stops at the summary.
pub check-summary-stops : {R W E : Type 0} (is_finding : List ℕ → Finding → Type 0) (reading : SourceRules R) (rules : StreamRules W E) (options : Options) (list : List ℕ) (source : R) (old mid new : Streams W E) (report : Report) (stop : Stop)
    → LinesChecked is_finding reading rules options list source old mid (Ok report)
    → EmitsTo {T = Unit {0}} rules (summary_events options list report) mid new (Err stop)
    → ListChecked is_finding reading rules options list source old new (Err stop)
check-summary-stops is_finding reading rules options list source old mid new report WriteFailed (findings, Some end, finds, is, first) summary =
    (findings, Some end, finds, tt, emits-join {T = Bool} rules _ _ old mid new (Err WriteFailed) first (subst (λ r. EmitsTo {T = Bool} rules (summary_events options list r) mid new (Err WriteFailed)) is summary))
check-summary-stops is_finding reading rules options list source old mid new report OutOfMemory (findings, Some end, finds, is, first) summary =
    (findings, Some end, finds, tt, emits-join {T = Bool} rules _ _ old mid new (Err OutOfMemory) first (subst (λ r. EmitsTo {T = Bool} rules (summary_events options list r) mid new (Err OutOfMemory)) is summary))
check-summary-stops is_finding reading rules options list source old mid new report stop (findings, None, finds, is, first) summary = absurd is

pub check-ends : {R W E : Type 0} (is_finding : List ℕ → Finding → Type 0) (reading : SourceRules R) (rules : StreamRules W E) (options : Options) (list : List ℕ) (source : R) (old mid new : Streams W E) (report : Report) (good : Bool)
    → LinesChecked is_finding reading rules options list source old mid (Ok report)
    → EmitsAll rules (summary_events options list report) mid new → good ≡ passes options report
    → ListChecked is_finding reading rules options list source old new (Ok good)
check-ends is_finding reading rules options list source old mid new report good (findings, Some end, finds, is, first) summary answer =
    (findings, Some end, finds, (tt, subst (λ r. good ≡ passes options r) is answer), emits-append rules _ _ old mid new first (subst (λ r. EmitsAll rules (summary_events options list r) mid new) is summary))
check-ends is_finding reading rules options list source old mid new report good (findings, None, finds, is, first) summary answer = absurd is

-- ---- a list by its name

pub answers-outcome : (options : Options) (findings : List Finding) (end : Option ListEnd) (result : Result Bool Stop) → AnswersList options findings end result → AnswersOutcome options (Checked findings end) result
answers-outcome options findings end (Ok good) answer = answer
answers-outcome options findings end (Err stop) answer = tt
