-- The command of the arguments.
use Rattle.std.specs.Prelude.{◌≡◌, ℕ, Bool, true, false, ◌&&◌, ◌||◌, not, List, [], ◌∷◌, ◌++◌, Option, Some, None, Result, Ok, Err, codes, drop, get_or, length, nat_eq, take, if◌then◌else◌}
use Rattle.xxhsum_program.specs.Prelude.{Eprints, Options, SinkRules, Stop, WriteFailed, concat, one_line}
use Rattle.xxhsum_program.specs.declared.process.Interactive.{Interactive}
use Rattle.xxhsum_program.specs.declared.usage.TheConstants.{ABOUT, BEFORE, BEHIND, NO_BENCHMARK, TITLE}
use Rattle.xxhsum_program.specs.Arguments.{IsLastPart}
use Rattle.xxhsum_options.specs.Name.{kind_of_program}
use Rattle.xxhsum_options.specs.Options.{are_listed, parsed_args}
use Rattle.xxhsum_options.specs.Table.{rows_text}
use Rattle.xxhsum_options.specs.declared.table.TheConstants.{ROWS}
use Rattle.xxhsum_options.specs.declared.options.ParsedArgs.{ParsedArgs}
use Rattle.xxhsum_options.specs.declared.options.ParsedArgs.TheVariants.{Run, Benchmark, Version, Help, WrongOption, NulsInList, FormatWithoutAudit, NulsInJson, WalkBesideLists, WalkOfNothing, ExcludeWithoutWalk, SlashInPattern, WrongDirectory, InputBesideNames, NumberTooLarge}

-- A text that is printed, or reported as an error, or a run that reads files: its options, the arguments before its
-- names, and its names.
pub data Command : Type 0 where
  Tells : List ℕ → Command
  Answers : List ℕ → Command
  Reads : Options → List (List ℕ) → List (List ℕ) → Command

-- The name of the program: the last part of its path, or `xxhsum` if there is no path.
abbrev pub IsProgram : List (List ℕ) → List ℕ → Type 0
IsProgram [] program = program ≡ codes "xxhsum"
IsProgram (path ∷ words) program = IsLastPart path program

-- The help.
abbrev pub usage_text : List ℕ → List ℕ
usage_text program =
    one_line (concat (program ∷ TITLE.now ∷ [])) ++ ABOUT.now
    ++ one_line (concat (codes "Usage: " ∷ program ∷ codes " [OPTION].. [FILE].." ∷ []))
    ++ BEFORE.now ++ rows_text ROWS ++ BEHIND.now

-- An error line, an empty line, and the help.
abbrev pub wrong_text : List ℕ → List ℕ → List ℕ
wrong_text line program = one_line line ++ codes "\n" ++ usage_text program

-- True if progress is shown: standard error is a terminal, and neither `-q` nor `--status` was given.
abbrev pub shows_progress : Interactive → Options → Bool
shows_progress interactive options = interactive.errors && not options.is_quiet && not options.is_status_only

abbrev pub has_none : List (List ℕ) → Bool
has_none names = nat_eq (length names) 0

-- True for an audit, a walk of directories, or names from lists of names.
abbrev pub is_tree : Options → Bool
is_tree options = options.audits || options.walks || are_listed options.names_from

-- True if there is no name and the input is a terminal, unless `-`, an audit, a walk or lists of names are requested.
abbrev pub waits_for_terminal : Interactive → Options → List (List ℕ) → Bool
waits_for_terminal interactive options names =
    has_none names && not (is_tree options) && not options.takes_terminal && interactive.input

-- The text that is printed or reported if no run is requested. It is printed if `is_well` is true.
abbrev pub answer_text : List ℕ → List (List ℕ) → ParsedArgs → List ℕ
answer_text program words Version = one_line (concat (program ∷ TITLE.now ∷ []))
answer_text program words Help = usage_text program
answer_text program words Benchmark = one_line (concat (program ∷ NO_BENCHMARK.now ∷ []))
answer_text program words (WrongOption at) =
    wrong_text (concat (codes "Wrong parameters: '" ∷ get_or words at [] ∷ codes "'" ∷ [])) program
answer_text program words NulsInList = wrong_text (codes "Wrong parameters: '-z' with '-c'") program
answer_text program words FormatWithoutAudit = wrong_text (codes "Wrong parameters: '--format' without '--audit'") program
answer_text program words NulsInJson = wrong_text (codes "Wrong parameters: '-z' with '--format=json'") program
answer_text program words WalkBesideLists =
    wrong_text (codes "Wrong parameters: '-r' with '-c' or lists of names") program
answer_text program words WalkOfNothing = wrong_text (codes "Wrong parameters: '-r' without a FILE") program
answer_text program words ExcludeWithoutWalk = wrong_text (codes "Wrong parameters: '--exclude' without '-r'") program
answer_text program words SlashInPattern = wrong_text (codes "Wrong parameters: '/' in a pattern of '--exclude'") program
answer_text program words WrongDirectory = wrong_text (codes "Wrong parameters: '-C' twice or without a directory") program
answer_text program words InputBesideNames =
    codes "Error: '-' is standard input, which can't be read with files; for a file of that name use './-'.\n"
answer_text program words (Run options place) = []
answer_text program words NumberTooLarge = codes "Error: numeric value too large \n"

abbrev pub is_well : ParsedArgs → Bool
is_well Version = true
is_well Help = true
is_well parsed = false

-- The text is printed. If that fails, the run has failed.
abbrev pub PrintsAnswer : {W : Type 0} → SinkRules W → List ℕ → W → W → Result Bool Stop → Type 0
PrintsAnswer writing text old new result =
    Eprints writing text old new × (result ≡ (if writing.has_failed new then Err WriteFailed else Ok true))

-- The options of a requested run, and the index of the argument that its names begin at.
abbrev pub requested_run : ParsedArgs → Option (Options × ℕ)
requested_run (Run options place) = Some (options, place)
requested_run parsed = None

-- The command of a run with these options, arguments before the names, and names.
abbrev pub command_of_run : Interactive → List ℕ → Options → List (List ℕ) → List (List ℕ) → Command
command_of_run interactive program options flags names =
    if waits_for_terminal interactive options names then Answers (wrong_text (codes "Wrong parameters") program)
    else Reads options flags names

abbrev pub command_from : Interactive → List ℕ → List (List ℕ) → ParsedArgs → Option (Options × ℕ) → Command
command_from interactive program words parsed None =
    let text = answer_text program words parsed in if is_well parsed then Tells text else Answers text
command_from interactive program words parsed (Some run) =
    command_of_run interactive program run.0 (take run.1 words) (drop run.1 words)

-- The command of the arguments after the program's name.
abbrev pub command_of : Interactive → List ℕ → List (List ℕ) → Command
command_of interactive program words =
    let parsed = parsed_args (kind_of_program program) words in
    command_from interactive program words parsed (requested_run parsed)
