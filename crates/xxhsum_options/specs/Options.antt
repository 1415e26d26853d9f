-- The meaning of the arguments.
use Rattle.std.specs.Prelude.{ℕ, ◌+◌, ◌-◌, ◌==◌, Bool, not, List, [], ◌∷◌, Option, Some, None, drop, get_or, is_some, length, true, false, bytes_eq, nat_le, nat_lt, ◌&&◌, ◌||◌, codes, if◌then◌else◌}
use Rattle.std.specs.List.{list_any}
use Rattle.xxh_io.specs.declared.kind.Kind.{Kind}
use Rattle.xxhsum_options.specs.declared.options.ParsedArgs.{ParsedArgs}
use Rattle.xxhsum_options.specs.declared.options.ParsedArgs.TheVariants.{Run, WrongOption, NulsInList, FormatWithoutAudit, NulsInJson, ExcludeWithoutWalk, SlashInPattern, WrongDirectory, InputBesideNames, WalkBesideLists, WalkOfNothing}
use Rattle.xxhsum_options.specs.declared.options.NamesFrom.{NamesFrom}
use Rattle.xxhsum_options.specs.declared.options.NamesFrom.TheVariants.{Words, Lines, Nuls}
use Rattle.xxhsum_options.specs.declared.options.Options.{Options}
use Rattle.xxhsum_options.specs.declared.options.Step.{Step}
use Rattle.xxhsum_options.specs.declared.options.Step.TheVariants.{Takes, EndsBefore, EndsAfter, IsWrong, Settles}
use Rattle.xxhsum_options.specs.Letters.{letters_step}
use Rattle.xxhsum_options.specs.Number.{begins_with}
use Rattle.xxhsum_options.specs.Table.{of_name}
use Rattle.xxhsum_options.specs.declared.table.TheConstants.{ROWS}

-- The options before the first argument.
abbrev pub no_options : Kind → Options
no_options kind = record {
  kind = kind;
  checks = false;
  is_quiet = false;
  is_status_only = false;
  is_strict = false;
  warns = false;
  ignores_missing = false;
  is_tagged = false;
  is_little_endian = false;
  ends_in_nul = false;
  audits = false;
  has_format = false;
  awaits_format = false;
  is_json = false;
  walks = false;
  excludes = false;
  awaits_pattern = false;
  directory = None;
  awaits_directory = false;
  names_from = Words;
  takes_terminal = false;
}

-- The effect of a pattern of `--exclude` on these options. A pattern with a `/` is refused.
abbrev pub pattern_step : Options → List ℕ → Step
pattern_step options pattern =
    if list_any (λ byte. byte == 47) pattern then Settles SlashInPattern
    else Takes (record options { excludes = true; awaits_pattern = false })

-- The effect of a value of `--format` on these options: `json` or `text`.
abbrev pub format_step : Options → List ℕ → Step
format_step options value =
    let is_json = bytes_eq value (codes "json") in
    if not is_json && not (bytes_eq value (codes "text")) then IsWrong
    else Takes (record options { has_format = true; awaits_format = false; is_json = is_json })

-- The effect of a directory of `-C`, which argument `at` has, on these options. It is refused if it is empty, begins with
-- `-`, or is the second one.
abbrev pub directory_step : ℕ → Options → List ℕ → Step
directory_step at options [] = Settles WrongDirectory
directory_step at options (first ∷ rest) =
    if first == 45 || is_some options.directory then Settles WrongDirectory
    else Takes (record options { directory = Some at; awaits_directory = false })

-- The directory in an argument: the argument itself, or the rest of it after `--directory=`.
abbrev pub directory_of : List ℕ → List ℕ
directory_of word = if begins_with (codes "--directory=") word then drop 12 word else word

-- The directory of `-C`, by the index of its argument. Without `-C` it is empty.
abbrev pub directory_at : Option ℕ → List (List ℕ) → List ℕ
directory_at None words = []
directory_at (Some at) words = directory_of (get_or words at [])

abbrev pub directory_in : Options → List (List ℕ) → List ℕ
directory_in options words = directory_at options.directory words

-- The effect of an argument that is no value on these options.
abbrev pub dash_step : Options → List ℕ → Step
dash_step options word =
    if begins_with (codes "--") word then of_name ROWS options (drop 2 word)
    else if bytes_eq word (codes "-") then Takes (record options { takes_terminal = true })
    else if begins_with (codes "-") word then letters_step 0 options (drop 1 word)
    else EndsBefore

-- The effect of the argument of index `at` on these options.
unfoldable pub word_step : ℕ → Options → List ℕ → Step
word_step at options word =
    if options.awaits_directory then directory_step at options word
    else if options.awaits_pattern then pattern_step options word
    else if begins_with (codes "--exclude=") word then pattern_step options (drop 10 word)
    else if options.awaits_format then format_step options word
    else if begins_with (codes "--format=") word then format_step options (drop 9 word)
    else if begins_with (codes "--directory=") word then directory_step at options (drop 12 word)
    else dash_step options word

-- True if the names are read from lists of names.
abbrev pub are_listed : NamesFrom → Bool
are_listed Words = false
are_listed Lines = true
are_listed Nuls = true

-- True if one of the names is `-`.
abbrev pub have_input : List (List ℕ) → Bool
have_input [] = false
have_input (name ∷ names) = bytes_eq name (codes "-") || have_input names

-- The number of checksum lists before the names: 1 for an audit, otherwise 0.
abbrev pub lists_audited : Options → ℕ
lists_audited options = if options.audits then 1 else 0

-- The number of checksum lists before lists of names: 1 for an audit with lists of names, otherwise 0.
abbrev pub lists_before : Options → ℕ
lists_before options = if options.audits && are_listed options.names_from then 1 else 0

-- True if `-` is one of the names, or was given before names. Standard input is not read if there are names.
abbrev pub leaves_input : Options → List (List ℕ) → Bool
leaves_input options names =
    have_input names || (options.takes_terminal && nat_lt (lists_before options) (length names))

-- The run with these options. Its names are the arguments from index `at` on. `--exclude` is refused without a pattern or
-- without `-r`, `--format` without a value or without `--audit`, `-C` without a directory. `-z` is refused with `-c` or
-- `--format=json`. `-r` is refused with `-c`, with lists of names, or without a name. `-` is refused with names.
unfoldable pub run_from : Options → ℕ → List (List ℕ) → ParsedArgs
run_from options at names =
    if options.awaits_pattern || options.awaits_format || options.awaits_directory then WrongOption (at - 1)
    else if options.ends_in_nul && options.checks then NulsInList
    else if options.has_format && not options.audits then FormatWithoutAudit
    else if options.is_json && options.ends_in_nul then NulsInJson
    else if options.excludes && not options.walks then ExcludeWithoutWalk
    else if options.walks && (options.checks || are_listed options.names_from) then WalkBesideLists
    else if options.walks && nat_le (length names) (lists_audited options) then WalkOfNothing
    else if leaves_input options names then InputBesideNames
    else Run options at

-- The result of an argument, and of the arguments after it. An argument that is not an option ends the options.
abbrev pub after_word : Step → ℕ → Options → List ℕ → List (List ℕ) → (Options → ParsedArgs) → ParsedArgs
after_word (Takes next) at options word words go_on = go_on next
after_word EndsBefore at options word words go_on = run_from options at (word ∷ words)
after_word EndsAfter at options word words go_on = run_from options (at + 1) words
after_word IsWrong at options word words go_on = WrongOption at
after_word (Settles parsed) at options word words go_on = parsed

-- The meaning of these arguments. The first `at` arguments resulted in these options.
abbrev pub parsed_after : ℕ → Options → List (List ℕ) → ParsedArgs
parsed_after at options [] = run_from options at []
parsed_after at options (word ∷ words) =
    after_word (word_step at options word) at options word words (λ next. parsed_after (at + 1) next words)

-- The meaning of the arguments after the program's name.
abbrev pub parsed_args : Kind → List (List ℕ) → ParsedArgs
parsed_args kind words = parsed_after 0 (no_options kind) words
