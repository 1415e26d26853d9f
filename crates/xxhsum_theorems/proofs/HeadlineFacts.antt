-- Lemmas on a run over names and on the check of a list.
use Rattle.std.proofs.Common.{◌≡◌, ℕ, Bool, true, false, List, [], ◌∷◌, ◌++◌, Option, Some, None, inl, inr, refl, sym, ap, ◌∙◌, subst, append-nil, if◌then◌else◌, ◌↔◌, Result, Ok, Err}
use Rattle.xxhsum_program.specs.Prelude.{AllByRecursion, EachHas, Eprints, Files, Input, Kind, Options, Shape, SourceRules, StoreRules, Style, Took, concat, files_of, input_of, one_line}
use Rattle.xxhsum_program.specs.declared.outcome.Outcome.{Outcome}
use Rattle.xxhsum_program.specs.declared.outcome.Outcome.TheVariants.{Digested, IsDirectory, Unread}
use Rattle.xxhsum_program.specs.declared.stop.Stop.{Stop}
use Rattle.xxhsum_program.specs.declared.stop.Stop.TheVariants.{OutOfMemory, WriteFailed}
use Rattle.xxhsum_theorems.specs.Headline.{IsLine, IsLineAtMost, IsLineOrMessage, PrintsBeginning}
use Rattle.xxhsum_line.specs.Laws.{MessageIsOneLine, PrintedIsOneLine}
use Rattle.xxhsum_line.specs.Printed.{line_of, text_of}
use Rattle.xxhsum_program.specs.CheckList.{EndsAs, SaysList}
use Rattle.xxhsum_program.specs.Findings.{Finding, Ignored, Improper, Proper, TooLong}
use Rattle.xxhsum_program.specs.GoodList.{GoodMeansEqual, IsWell}
use Rattle.xxhsum_program.specs.HashNames.{SaysNames, name_events}
use Rattle.xxhsum_program.specs.Lines.{lines_of}
use Rattle.xxhsum_program.specs.ListEnd.{ListEnd}
use Rattle.xxhsum_program.specs.Order.{EmitsAll, EmitsTo, EmitsUnlessFailed, Event, Printed, Reported, StreamRules, effect_of, printed_of, reported_of}
use Rattle.xxhsum_program.specs.declared.streams.Streams.{Streams}
use Rattle.xxhsum_program.specs.Outcomes.{Comes, are_digested}
use Rattle.xxhsum_program.specs.PrintedIsGood.{plain_style}
use Rattle.xxhsum_program.specs.Run.{status_of}
use Rattle.xxhsum_program.specs.ListMessages.{finding_events, found_text, improper_text, is_silent, list_events, too_long_text}
use Rattle.xxhsum_program.proofs.OrderFacts.{emits-prints, emits-refuses, emits-reports}

pub status : (done : Result Bool Stop) → (status_of done ≡ 0) ↔ (done ≡ Ok true)
status (Ok true) = (λ _. refl, λ _. refl)
status (Ok false) = (λ is. let no : 1 ≡ 0 = is in cc, λ is. cc)
status (Err stop) = (λ is. let no : 1 ≡ 0 = is in cc, λ is. cc)

-- ---- runs over names

pub each-name-once : {S F W E : Type 0} (files : Files S F) (rules : StreamRules W E) (kind : Kind) (style : Style) (names : List (List ℕ)) (old new : Streams W E) (all : Bool)
    → SaysNames files (effect_of rules old new (Ok all)) kind style names
    → (outcomes : List Outcome) × EachHas (Comes files kind) names outcomes
    × (let events = lines_of (name_events kind style) names outcomes in
    Took rules.writing (printed_of events) old.out new.out × Eprints rules.reporting (reported_of events) old.err new.err)
    × (all ≡ are_digested outcomes)
each-name-once files rules kind style names old new all (outcomes, done, rest, parts, each, (none, is), emits) =
    let whole : done ≡ names = sym (append-nil done) ∙ ap (λ r. done ++ r) (sym none) ∙ sym parts in
    let events = subst (λ n. EmitsAll rules (lines_of (name_events kind style) n outcomes) old new) whole emits in (
      outcomes,
      subst (λ n. EachHas (Comes files kind) n outcomes) whole each,
      (emits-prints rules _ old new events, emits-reports rules _ old new events),
      is,
    )

-- ---- lines

one-message : MessageIsOneLine → (text : List ℕ) (events : List Event) → events ≡ Reported text ∷ [] → IsLineOrMessage events
one-message message text events is = (Reported text, is, message text)

pub line_or_message : PrintedIsOneLine → MessageIsOneLine → (kind : Kind) (shape : Shape) (name : List ℕ) (outcome : Outcome) → IsLineOrMessage (name_events kind (plain_style shape) name outcome)
line_or_message printed message kind shape name (Digested value) =
    (Printed (line_of kind shape value name), refl, (text_of kind shape value name, refl, printed kind shape value name))
line_or_message printed message kind shape name IsDirectory = one-message message _ _ refl
line_or_message printed message kind shape name (Unread reason) = one-message message _ _ refl

line-if : (test : Bool) (event : Event) → IsLine event → IsLineAtMost (if test then event ∷ [] else [])
line-if true event is = inr (event, refl, is)
line-if false event is = inl refl

line-unless : (test : Bool) (event : Event) → IsLine event → IsLineAtMost (if test then [] else event ∷ [])
line-unless true event is = inl refl
line-unless false event is = inr (event, refl, is)

pub findings_are_lines : MessageIsOneLine → (options : Options) (list : List ℕ) (number : ℕ) (finding : Finding) → IsLineAtMost (finding_events options list number finding)
findings_are_lines message options list number Ignored = inl refl
findings_are_lines message options list number Improper = line-if options.warns (Reported (improper_text list number)) (message (improper_text list number))
findings_are_lines message options list number TooLong = inr (Reported (too_long_text list number), refl, message (too_long_text list number))
findings_are_lines message options list number (Proper name found) =
    let text = found_text list number name found in line-unless (is_silent options found) (Printed (one_line text)) (message text)

-- ---- runs that stop

beginning : {W E : Type 0} (rules : StreamRules W E) (events : List Event) (old new : Streams W E) (stop : Stop) → EmitsTo {T = Bool} rules events old new (Err stop) → PrintsBeginning rules.writing (printed_of events) old.out new.out
beginning rules events old new WriteFailed emits =
    let (taken, met, pieces, refused, (rest, whole, some)) = (emits-refuses Bool rules events old new emits).0 in
    (concat taken, rest, met, whole, (taken, pieces, refl), inr refused)
beginning rules events old new OutOfMemory emits =
    (printed_of events, [], new.out, sym (append-nil (printed_of events)), emits-prints rules events old new emits, inl refl)

unless-failed : {W E : Type 0} (rules : StreamRules W E) (events : List Event) (old new : Streams W E) (stop : Stop)
    → EmitsUnlessFailed (effect_of rules old new (Err stop)) events → PrintsBeginning rules.writing (printed_of events) old.out new.out
unless-failed rules events old new stop (inl emits) = beginning rules events old new stop emits
unless-failed rules events old new stop (inr (failed, same, silent, is)) =
    ([], printed_of events, old.out, refl, ([], refl, refl), inl same)

pub names-stop : {S F W E : Type 0} (files : Files S F) (rules : StreamRules W E) (kind : Kind) (style : Style) (names : List (List ℕ)) (old new : Streams W E) (stop : Stop)
    → SaysNames files (effect_of rules old new (Err stop)) kind style names
    → (done rest : List (List ℕ)) × (outcomes : List Outcome) × (names ≡ done ++ rest)
    × EachHas (Comes files kind) done outcomes
    × PrintsBeginning rules.writing (printed_of (lines_of (name_events kind style) done outcomes)) old.out new.out
names-stop files rules kind style names old new stop (outcomes, done, rest, parts, each, ends, emits) =
    (done, rest, outcomes, parts, each, beginning rules _ old new stop emits)

pub list-stops : {S F R W E : Type 0} (files : Files S F) (input : Input R) (rules : StreamRules W E) (options : Options) (name : List ℕ) (old new : Streams W E) (stop : Stop)
    → SaysList files input (effect_of rules old new (Err stop)) options name
    → (findings : List Finding) × (end : Option ListEnd) × PrintsBeginning rules.writing (printed_of (list_events options name findings end)) old.out new.out
list-stops files input rules options name old new stop (findings, end, finds, answers, emits) =
    (findings, end, unless-failed rules _ old new stop emits)

-- ---- good lists

pub good-means-equal : {S F R W E : Type 0} (opening : StoreRules S F) (reading : SourceRules F) (list_reading : SourceRules R) (rules : StreamRules W E)
    → GoodMeansEqual opening reading list_reading
    → (store : S) (options : Options) (name : List ℕ) (source : R) (old new : Streams W E)
    → SaysList (files_of opening reading store) (input_of list_reading source) (effect_of rules old new (Ok true)) options name
    → (lines : List (List ℕ)) × (end : ListEnd) × EndsAs list_reading source lines end
    × AllByRecursion (IsWell (files_of opening reading store) options) lines
good-means-equal opening reading list_reading rules law store options name source old new (findings, None, finds, (ended, good), emits) = absurd ended
good-means-equal opening reading list_reading rules law store options name source old new (findings, Some end, finds, (ended, good), emits) =
    let (lines, meets, well) = law store options source findings (Some end) finds (sym good) in (lines, end, meets, well)
