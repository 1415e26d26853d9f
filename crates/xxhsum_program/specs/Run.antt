-- The run of a command, and the exit status.
use Rattle.std.specs.Prelude.{◌≡◌, ℕ, Bool, true, false, List, [], codes, MatchBool, Result, Ok, Err}
use Rattle.xxhsum_program.specs.Prelude.{Eprints, Files, Input, Options, OutOfMemory, Stop, Streams, Style, Took, WriteFailed}
use Rattle.xxhsum_program.specs.CheckList.{SaysList, SaysLists}
use Rattle.xxhsum_program.specs.Command.{Answers, Command, PrintsAnswer, Reads, Tells, has_none}
use Rattle.xxhsum_program.specs.Finish.{IsWritten, end_after}
use Rattle.xxhsum_program.specs.HashNames.{SaysInput, SaysNames}
use Rattle.xxhsum_program.specs.Order.{Effect, StreamRules}
use Rattle.xxhsum_program.specs.Streams.{err_of}

abbrev pub style_of : Options → Style
style_of options = record {
  shape = record { is_tagged = options.is_tagged; is_little = options.is_little_endian };
  ends_in_nul = options.ends_in_nul;
}

-- The name of standard input.
abbrev pub input_name : List ℕ
input_name = codes "stdin"

-- Names are hashed, or checked as lists.
abbrev pub PerformsOn : {S F W E : Type 0} → Files S F → Effect W E → Options → List (List ℕ) → Type 0
PerformsOn files effect options names =
    MatchBool options.checks (SaysLists files effect options names)
    (SaysNames files effect options.kind (style_of options) names)

-- Standard input is hashed, or checked as a list.
abbrev pub PerformsInput : {S F R W E : Type 0} → Files S F → Input R → Effect W E → Options → Type 0
PerformsInput {R = R} files input effect options =
    MatchBool options.checks (SaysList files input effect options input_name)
    ((end : R) × SaysInput input end effect options.kind (style_of options) input_name)

-- The names, or standard input if there is none.
unfoldable pub PerformsAs : {S F R W E : Type 0} → Files S F → Input R → Effect W E → Options → List (List ℕ) → Type 0
PerformsAs files input effect options names =
    MatchBool (has_none names) (PerformsInput files input effect options) (PerformsOn files effect options names)

-- A text is printed and nothing is reported; or it is reported, nothing is printed, and the run fails; or files are read
-- as `performs` states.
abbrev pub DoesCommand : {W E : Type 0} → (List (List ℕ) → Options → List (List ℕ) → Type 0) → Effect W E → Command → Type 0
DoesCommand performs effect (Tells text) =
    PrintsAnswer effect.rules.writing text effect.old.out effect.new.out effect.result
    × (err_of effect.new ≡ err_of effect.old)
DoesCommand performs effect (Answers text) =
    (effect.result ≡ Ok false) × (effect.new.out ≡ effect.old.out)
    × Eprints effect.rules.reporting text (err_of effect.old) (err_of effect.new)
DoesCommand performs effect (Reads options flags words) = performs flags options words

-- ---- the end

-- The message for a reason to stop.
abbrev pub stop_text : Stop → List ℕ
stop_text WriteFailed = codes "Error: a failure occurred writing the output.\n"
stop_text OutOfMemory = codes "\nError: Out of memory.\n"

abbrev pub end_text : Result Bool Stop → List ℕ
end_text (Ok all) = []
end_text (Err stop) = stop_text stop

-- The exit status: 0 if all went well.
abbrev pub status_of : Result Bool Stop → ℕ
status_of (Ok true) = 0
status_of done = 1

-- No output is held at the end, unless some was lost, and then the reason to stop is reported, if there is one. If
-- output was lost, the run has failed.
abbrev pub Ends : {W E : Type 0} → StreamRules W E → Result Bool Stop → Streams W E → Streams W E → ℕ → Type 0
Ends rules done old new status =
    let ended = end_after (rules.has_lost new.out) done in
    Took rules.writing [] old.out new.out × IsWritten rules.held rules.has_lost new.out
    × Eprints rules.reporting (end_text ended) (err_of old) (err_of new) × (status ≡ status_of ended)
