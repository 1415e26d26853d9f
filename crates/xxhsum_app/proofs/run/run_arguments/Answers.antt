use Rattle.xxhsum_app.proofs.Prelude.{◌∙◌, ◌≡◌, ParsedArgs, Kind, List, None, Option, Options, Some, Interactive, parsed_args, ap, codes, drop, false, kind_of_program, map, refl, sym, take, true, ℕ}
use Rattle.xxhsum_options.specs.Options.{directory_in}
use Rattle.xxhsum_program.specs.Command.{Answers, Reads, Tells, answer_text, command_from, command_of, is_well, requested_run, waits_for_terminal, wrong_text}
use Rattle.xxhsum_app.proofs.run.run_arguments.Goals as goal

-- Lemmas on the command of the arguments.

-- Lemma: `command_of` the arguments is `command_from` the words, options and run that were computed from them.
command-is : (interactive : Interactive) (program : List ℕ) (arguments words : List (List ℕ)) (kind : Kind) (parsed : ParsedArgs) (run : Option (Options × ℕ)) → words ≡ drop 1 arguments → kind ≡ kind_of_program program → parsed ≡ parsed_args kind words → run ≡ requested_run parsed → command_of interactive program (drop 1 arguments) ≡ command_from interactive program words parsed run
command-is interactive program arguments words kind parsed run same kinds is runs = rw (runs, is, kinds, same) refl

command-message : (interactive : Interactive) (program : List ℕ) (words : List (List ℕ)) (parsed : ParsedArgs) (run : Option (Options × ℕ)) → run ≡ None
    → is_well parsed ≡ false → command_from interactive program words parsed run ≡ Answers (answer_text program words parsed)
command-message interactive program words parsed run is wrong = rw (is, wrong) refl

command-tells : (interactive : Interactive) (program : List ℕ) (words : List (List ℕ)) (parsed : ParsedArgs) (run : Option (Options × ℕ)) → run ≡ None
    → is_well parsed ≡ true → command_from interactive program words parsed run ≡ Tells (answer_text program words parsed)
command-tells interactive program words parsed run is well = rw (is, well) refl

-- A requested run, which may wait for a terminal.
module _ (interactive : Interactive) (program : List ℕ) (words names : List (List ℕ)) (parsed : ParsedArgs) (run : Option (Options × ℕ)) (options : Options) (place : ℕ) (is : run ≡ Some (options, place)) (same : names ≡ drop place words) where
  command-waits : waits_for_terminal interactive options names ≡ true → command_from interactive program words parsed run ≡ Answers (wrong_text (codes "Wrong parameters") program)
  command-waits waits =
      let still : waits_for_terminal interactive options (drop place words) ≡ true = rw same at waits in
      rw (is, still) refl

  command-reads : waits_for_terminal interactive options names ≡ false → command_from interactive program words parsed run ≡ Reads options (take place words) names
  command-reads waits =
      let still : waits_for_terminal interactive options (drop place words) ≡ false = rw same at waits in
      rw (is, still, same) refl

pub returns-then-is_well : goal.returns-then-is_well
returns-then-is_well g c =
    let arguments = map (λ argument. argument.items) c.args.args.now in
    let program = c.program_of-program.result.now in
    let words = map (λ word. word.items) c.arguments_behind_name-words.result.now in
    let parsed = c.parse_args-parsed.result in
    let command = command-is c.args.console.interactive program arguments words c.default_kind.result parsed c.requested_run.result c.arguments_behind_name-words.ensures c.default_kind.ensures c.parse_args-parsed.ensures c.requested_run.ensures in
    (program, c.program_of-program.ensures, rw (command ∙ command-tells c.args.console.interactive program words parsed c.requested_run.result c.in_default.is (sym c.is_well.ensures ∙ c.if-is_well.true)) (c.print_answer.ensures, refl))

pub returns-in_default : goal.returns-in_default
returns-in_default g c =
    let arguments = map (λ argument. argument.items) c.args.args.now in
    let program = c.program_of-program.result.now in
    let words = map (λ word. word.items) c.arguments_behind_name-words.result.now in
    let parsed = c.parse_args-parsed.result in
    let command = command-is c.args.console.interactive program arguments words c.default_kind.result parsed c.requested_run.result c.arguments_behind_name-words.ensures c.default_kind.ensures c.parse_args-parsed.ensures c.requested_run.ensures in
    (program, c.program_of-program.ensures, rw (command ∙ command-message c.args.console.interactive program words parsed c.requested_run.result c.in_default.is (sym c.is_well.ensures ∙ c.if-is_well.false)) (refl, refl, rw c.messages.ensures.value at c.eprint_answer.ensures))

pub returns-then-waits_for_terminal : goal.returns-then-waits_for_terminal
returns-then-waits_for_terminal g c =
    let arguments = map (λ argument. argument.items) c.args.args.now in
    let program = c.program_of-program.result.now in
    let words = map (λ word. word.items) c.arguments_behind_name-words.result.now in
    let parsed = c.parse_args-parsed.result in
    let command = command-is c.args.console.interactive program arguments words c.default_kind.result parsed c.requested_run.result c.arguments_behind_name-words.ensures c.default_kind.ensures c.parse_args-parsed.ensures c.requested_run.ensures in
    let names = map (λ name. name.items) c.words_behind-names.result.now in
    let run = c.in-Some.found in
    (program, c.program_of-program.ensures, rw (command ∙ command-waits c.args.console.interactive program words names parsed c.requested_run.result run.0 run.1 c.in-Some.is c.words_behind-names.ensures (sym c.waits_for_terminal.ensures ∙ c.if-waits_for_terminal.true)) (refl, refl, rw c.messages-then-waits_for_terminal.ensures.value at c.eprint_wrong.ensures))

pub returns : goal.returns
returns g c =
    let arguments = map (λ argument. argument.items) c.args.args.now in
    let program = c.program_of-program.result.now in
    let words = map (λ word. word.items) c.arguments_behind_name-words.result.now in
    let parsed = c.parse_args-parsed.result in
    let command = command-is c.args.console.interactive program arguments words c.default_kind.result parsed c.requested_run.result c.arguments_behind_name-words.ensures c.default_kind.ensures c.parse_args-parsed.ensures c.requested_run.ensures in
    let names = map (λ name. name.items) c.words_behind-names.result.now in
    let run = c.in-Some.found in
    (program, c.program_of-program.ensures, rw (command ∙ command-reads c.args.console.interactive program words names parsed c.requested_run.result run.0 run.1 c.in-Some.is c.words_behind-names.ensures (sym c.waits_for_terminal.ensures ∙ c.if-waits_for_terminal.false)) (c.new-below.result, (c.new-below.ensures.0 ∙ c.directory_in.ensures ∙ ap (directory_in run.0) c.words_before-flags.ensures, c.new-below.ensures.1), rw c.words_before-flags.ensures at c.perform_words.ensures))
