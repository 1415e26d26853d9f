-- The check of a list: one finding for each of its lines, in their order.
use Rattle.std.specs.Prelude.{◌≡◌, ◌⊎◌, ℕ, ◌-◌, ◌^◌, Bool, true, false, List, [], ◌∷◌, ◌++◌, Option, Some, None, length, Result, Ok, Err}
use Rattle.std.specs.List.{list_all}
use Rattle.xxhsum_program.specs.Prelude.{AllByRecursion, EachHas, Files, Input, Lacks, NoneEmpty, Options, OutOfMemory, Pieces, Refusal, Report, SourceRules, Stop, WriteFailed, concat}
use Rattle.xxhsum_program.specs.Findings.{Finding, IsFinding, count_one}
use Rattle.xxhsum_program.specs.Lines.{lines_of}
use Rattle.xxhsum_program.specs.ListEnd.{ListEnd, Whole, TooMany, Endless, FailedRead, report_at}
use Rattle.xxhsum_program.specs.ListLines.{FailsAfter, IsEndless, IsLastLine, end_piece}
use Rattle.xxhsum_program.specs.Order.{Effect, EmitsAll, EmitsTo, EmitsUnlessFailed, Event, Reported, StreamRules}
use Rattle.xxhsum_program.specs.declared.streams.Streams.{Streams}
use Rattle.xxhsum_program.specs.ListMessages.{finding_events, list_events, refusal_message}
use Rattle.xxhsum_program.specs.Report.{passes}

-- The lines, each with its line feed.
abbrev pub with_line_feeds : List (List ℕ) → List ℕ
with_line_feeds [] = []
with_line_feeds (line ∷ lines) = line ++ 10 ∷ with_line_feeds lines

-- The text is lines with line feeds, followed by a last line without one.
abbrev pub EndsInLine : List ℕ → List (List ℕ) → Type 0
EndsInLine text lines =
    (before : List (List ℕ)) × (last : List ℕ) × AllByRecursion (Lacks 10) before × IsLastLine last
    × (text ≡ with_line_feeds before ++ last) × (lines ≡ before ++ last ∷ [])

-- The text is these lines, each with its line feed, followed by the rest; or the source has ended, and they are the
-- whole text.
abbrev pub HasLines : Bool → List ℕ → List (List ℕ) → List ℕ → Type 0
HasLines has_ended text lines rest =
    (AllByRecursion (Lacks 10) lines × (text ≡ with_line_feeds lines ++ rest))
    ⊎ ((has_ended ≡ true) × EndsInLine text lines × (rest ≡ []))

-- Reads of the source, of which only the last was empty, returned these lines and then the rest.
abbrev pub ReadsLines : {R : Type 0} → SourceRules R → R → Bool → List (List ℕ) → List ℕ → Type 0
ReadsLines {R} reading source has_ended lines rest =
    (pieces : List (List ℕ)) × (end : R) × NoneEmpty pieces
    × Pieces reading.gives source (pieces ++ end_piece has_ended) end × HasLines has_ended (concat pieces) lines rest

-- The source has ended, and these are its lines.
abbrev pub EndsWell : {R : Type 0} → SourceRules R → R → List (List ℕ) → Type 0
EndsWell reading source lines = ReadsLines reading source true lines []

-- Reads of the source returned these lines, and perhaps more.
abbrev pub ReadsSome : {R : Type 0} → SourceRules R → R → List (List ℕ) → Type 0
ReadsSome reading source lines = (has_ended : Bool) × (rest : List ℕ) × ReadsLines reading source has_ended lines rest

-- The way in which the lines of a source end.
abbrev pub EndsAs : {R : Type 0} → SourceRules R → R → List (List ℕ) → ListEnd → Type 0
EndsAs reading source lines Whole = EndsWell reading source lines
EndsAs reading source lines TooMany = ReadsSome reading source lines × (length lines ≡ 2 ^ 64 - 2)
EndsAs reading source lines Endless =
    (has_ended : Bool) × (rest : List ℕ) × ReadsLines reading source has_ended lines rest × IsEndless rest
EndsAs reading source lines (FailedRead why) =
    (rest : List ℕ) × FailsAfter reading source why (with_line_feeds lines ++ rest)
    × Lacks 10 rest × AllByRecursion (Lacks 10) lines

-- The first lines of a source, or all of them and the way in which they end.
abbrev pub MeetsLines : {R : Type 0} → SourceRules R → R → List (List ℕ) → Option ListEnd → Type 0
MeetsLines reading source lines None = ReadsSome reading source lines
MeetsLines reading source lines (Some end) = EndsAs reading source lines end

-- Each of the lines of a source that were checked so far has a finding.
abbrev pub FindsLines : {R : Type 0} → (List ℕ → Finding → Type 0) → SourceRules R → R → List Finding → Option ListEnd
    → Type 0
FindsLines is_finding reading source findings end =
    (lines : List (List ℕ)) × EachHas is_finding lines findings × MeetsLines reading source lines end

-- A line of a list, by its number, and the counts before and after it.
pub record LineCheck : Type 0 where
  pub options : Options
  pub list : List ℕ
  pub number : ℕ
  pub old : Report
  pub new : Report

abbrev pub line_check : Options → List ℕ → ℕ → Report → Report → LineCheck
line_check options list number old new =
    record { options = options; list = list; number = number; old = old; new = new }

abbrev pub line_events : LineCheck → Finding → List Event
line_events line finding = finding_events line.options line.list line.number finding

-- The line has a finding, which is counted, and its events. If a write failed, a prefix of its line is printed; if out of
-- memory, there are no events.
abbrev pub ChecksLine : {W E : Type 0} → (Finding → Type 0) → LineCheck → StreamRules W E → Streams W E → Streams W E
    → Result (Unit {0}) Stop → Type 0
ChecksLine is_finding line rules old new (Ok _) =
    (finding : Finding) × is_finding finding × (line.new ≡ count_one line.options.ignores_missing line.old finding)
    × EmitsAll rules (line_events line finding) old new
ChecksLine is_finding line rules old new (Err WriteFailed) =
    (finding : Finding) × is_finding finding
    × EmitsTo {T = Unit {0}} rules (line_events line finding) old new (Err WriteFailed)
ChecksLine is_finding line rules old new (Err OutOfMemory) = EmitsAll rules [] old new

-- True if the list is good; false before its end is reached.
abbrev pub is_good_list : Options → List Finding → Option ListEnd → Bool
is_good_list options findings None = false
is_good_list options findings (Some end) = passes options (report_at options.ignores_missing end findings)

-- The check has reached the end of the list.
abbrev pub HasEnded : Option ListEnd → Type 0
HasEnded None = ⊥
HasEnded (Some end) = Unit {0}

-- A result is that of the whole list. Only a failed write or a lack of memory prevents it.
abbrev pub AnswersList : Options → List Finding → Option ListEnd → Result Bool Stop → Type 0
AnswersList options findings end (Ok good) = HasEnded end × (good ≡ is_good_list options findings end)
AnswersList options findings end (Err stop) = Unit {0}

-- The report is that of the whole list.
abbrev pub ReportsLines : Bool → List Finding → Option ListEnd → Result Report Stop → Type 0
ReportsLines ignores findings None (Ok report) = ⊥
ReportsLines ignores findings (Some end) (Ok report) = report ≡ report_at ignores end findings
ReportsLines ignores findings end (Err stop) = end ≡ None

-- ---- lists by their names

-- The outcome of the name of a list: the findings so far, or the reason why it can't be opened.
pub data ListOutcome : Type 0 where
  Checked : List Finding → Option ListEnd → ListOutcome
  Unopened : Refusal → ListOutcome

abbrev pub IsListOutcome : {S F : Type 0} → Files S F → Bool → List ℕ → ListOutcome → Type 0
IsListOutcome {S} {F} files is_little name (Checked findings end) =
    (file : F) × files.opening.opens files.store name file
    × FindsLines (IsFinding files is_little) files.reading file findings end
IsListOutcome files is_little name (Unopened refusal) = files.opening.refuses files.store name refusal

-- The events of a list: those of its check, or the message that it can't be opened.
abbrev pub outcome_events : Options → List ℕ → ListOutcome → List Event
outcome_events options list (Checked findings end) = list_events options list findings end
outcome_events options list (Unopened refusal) = Reported (refusal_message list refusal) ∷ []

-- The list was checked to its end, or can't be opened.
abbrev pub IsDone : ListOutcome → Type 0
IsDone (Checked findings end) = HasEnded end
IsDone (Unopened refusal) = Unit {0}

abbrev pub AreAllDone : List ListOutcome → Type 0
AreAllDone outcomes = AllByRecursion IsDone outcomes

-- All are done, except perhaps the last, at which the run stopped.
abbrev pub AreDoneButLast : List ListOutcome → Type 0
AreDoneButLast outcomes =
    AreAllDone outcomes
    ⊎ ((before : List ListOutcome) × (last : ListOutcome) × (outcomes ≡ before ++ last ∷ []) × AreAllDone before)

abbrev pub is_good_outcome : Options → ListOutcome → Bool
is_good_outcome options (Checked findings end) = is_good_list options findings end
is_good_outcome options (Unopened refusal) = false

abbrev pub are_good : Options → List ListOutcome → Bool
are_good options outcomes = list_all (is_good_outcome options) outcomes

-- The result is that of this list; an error if its check stopped.
abbrev pub AnswersOutcome : Options → ListOutcome → Result Bool Stop → Type 0
AnswersOutcome options outcome (Ok good) = IsDone outcome × (good ≡ is_good_outcome options outcome)
AnswersOutcome options outcome (Err stop) = Unit {0}

-- The result is that of all lists; an error if the run stopped at the last list that has an outcome.
abbrev pub AnswersLists : Options → List (List ℕ) → List ListOutcome → Result Bool Stop → Type 0
AnswersLists options rest outcomes (Ok all) =
    (rest ≡ []) × AreAllDone outcomes × (all ≡ are_good options outcomes)
AnswersLists options rest outcomes (Err stop) = AreDoneButLast outcomes

-- ---- findings and their events

-- The lines of a list have their findings, and exactly the events of these happen, in their order.
abbrev pub SaysList : {S F R W E : Type 0} → Files S F → Input R → Effect W E → Options → List ℕ → Type 0
SaysList files input effect options name =
    (findings : List Finding) × (end : Option ListEnd)
    × FindsLines (IsFinding files options.is_little_endian) input.reading input.source findings end
    × AnswersList options findings end effect.result
    × EmitsUnlessFailed effect (list_events options name findings end)

-- The names are the lists that are done, each with its outcome, followed by the rest. Exactly the events of the outcomes
-- happen, list after list.
abbrev pub SaysLists : {S F W E : Type 0} → Files S F → Effect W E → Options → List (List ℕ) → Type 0
SaysLists files effect options names =
    (outcomes : List ListOutcome) × (done rest : List (List ℕ)) × (names ≡ done ++ rest)
    × EachHas (IsListOutcome files options.is_little_endian) done outcomes
    × AnswersLists options rest outcomes effect.result
    × EmitsUnlessFailed effect (lines_of (outcome_events options) done outcomes)
