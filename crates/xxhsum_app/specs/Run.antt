-- A run of the program by its arguments, which may request a tree.
use Rattle.std.specs.Prelude.{◌≡◌, ℕ, Bool, ◌&&◌, ◌⊎◌, List, [], ◌∷◌, Option, Some, None, codes, drop, MatchBool, Result, Ok, Err}
use Rattle.xxhsum_app.specs.Prelude.{Effect, Files, FolderRules, Input, Options, SourceRules, Stop, StoreRules, files_of}
use Rattle.xxhsum_program.specs.declared.process.Interactive.{Interactive}
use Rattle.xxhsum_program.specs.HashNames.{SaysNames}
use Rattle.xxhsum_program.specs.Streams.{err_of, streams_of}
use Rattle.xxhsum_app.specs.Audits.{Audits}
use Rattle.xxhsum_app.specs.Finds.{AndThen, HasNoRoom, OnlyReports}
use Rattle.xxhsum_app.specs.Messages.{effect_messages, messages_of}
use Rattle.xxhsum_app.specs.Names.{ListNames, ListNone, end_of}
use Rattle.xxhsum_app.specs.Walk.{Tree, WalksAll, WalksSome, tree_of, without}
use Rattle.xxhsum_fs.specs.Below.{IsBelow, folders_below, store_below}
use Rattle.xxhsum_fs.specs.declared.below.Below.{Below}
use Rattle.xxhsum_options.specs.Exclude.{patterns_in}
use Rattle.xxhsum_options.specs.Options.{are_listed, directory_in}
use Rattle.xxhsum_program.specs.Command.{IsProgram, command_of, has_none}
use Rattle.xxhsum_program.specs.Run.{DoesCommand, PerformsAs, PerformsOn, style_of}

-- Without an audit, the names in lists are hashed, or checked as lists.
abbrev pub WalksNames : {S F R W E : Type 0} → Files S F → Input R → Effect W E → Options → List (List ℕ) → Type 0
WalksNames files input effect options lists =
    AndThen effect (ListNames files input (end_of options.names_from) lists) (ListNone files input lists)
    (λ names. PerformsOn files effect options names)

-- True if the names in each folder were read, and all went well with the files.
abbrev pub all_well : Bool → Result Bool Stop → Result Bool Stop
all_well is_complete (Ok all) = Ok (is_complete && all)
all_well is_complete (Err stop) = Err stop

-- Below folders, the files are hashed after all folders were read; or memory ran out before.
abbrev pub WalksFolders : {S F W E : Type 0} → Tree → Files S F → Effect W E → Options → List (List ℕ) → Type 0
WalksFolders {E = E} tree files effect options names =
    ((found lost : List (List ℕ)) × (message : E) × (done : Result Bool Stop)
    × WalksAll tree (messages_of effect.rules.reporting (err_of effect.old) message) names found lost
    × SaysNames files (record effect { old = streams_of effect.old.out message; result = done }) options.kind
    (style_of options) found
    × (effect.result ≡ all_well (has_none lost) done))
    ⊎ ((stop : Stop) × WalksSome tree (effect_messages effect) names stop × (effect.new.out ≡ effect.old.out)
    × (effect.result ≡ Err stop))

-- An audit of the files below folders, and of the names that could not be read.
abbrev pub AuditsBelow : {S F W E : Type 0} → Tree → Files S F → Effect W E → Options → List ℕ → List (List ℕ) → Type 0
AuditsBelow {E = E} tree files effect options list names =
    ((found lost : List (List ℕ)) × (message : E)
    × WalksAll tree (messages_of effect.rules.reporting (err_of effect.old) message) names found lost
    × Audits files (record effect { old = streams_of effect.old.out message }) options lost list found)
    ⊎ ((stop : Stop) × WalksSome tree (effect_messages effect) names stop × (effect.new.out ≡ effect.old.out)
    × (effect.result ≡ Err stop))

-- An audit: the first word is the list, and the words after it are the names, or lists of names.
abbrev pub AuditsWords : {S F R W E : Type 0} → Tree → Files S F → Input R → Effect W E → Options → List (List ℕ) → Type 0
AuditsWords tree files input effect options [] = OnlyReports effect (codes "Error: --audit needs a list.")
AuditsWords tree files input effect options (list ∷ names) =
    MatchBool options.walks (AuditsBelow tree files effect options list names)
    (MatchBool (are_listed options.names_from)
    (AndThen effect (ListNames files input (end_of options.names_from) names) (ListNone files input names)
    (λ listed. Audits files effect options [] list listed))
    (Audits files effect options [] list names))

-- A run with its options and words: over a tree, or with the words as its names.
unfoldable pub PerformsWords : {S F R W E : Type 0} → Tree → Files S F → Input R → Effect W E → Options → List (List ℕ) → Type 0
PerformsWords tree files input effect options words =
    MatchBool options.audits (AuditsWords tree files input effect options words)
    (MatchBool options.walks (WalksFolders tree files effect options words)
    (MatchBool (are_listed options.names_from) (WalksNames files input effect options words)
    (PerformsAs files input effect options words)))

-- The same below the directory of `-C`, without the names in directories that a pattern of `--exclude` matches. `flags` are
-- the arguments before the words.
abbrev pub PerformsBelow : {S F R W E : Type 0} → StoreRules S F → FolderRules S → SourceRules F → S → Input R → Effect W E
    → List (List ℕ) → Options → List (List ℕ) → Type 0
PerformsBelow {S} opening folders reading store input effect flags options words =
    (below : Below S) × IsBelow (directory_in options flags) store below
    × PerformsWords (without (patterns_in flags) (tree_of (store_below opening) (folders_below folders) below))
    (files_of (store_below opening) reading below) input effect options words

-- The command of the arguments is done; or memory for the arguments ran out, and nothing is printed or reported.
abbrev pub DoesArguments : {W E : Type 0} → (List (List ℕ) → Options → List (List ℕ) → Type 0) → Effect W E → Interactive
    → Option (List (List ℕ)) → Type 0
DoesArguments performs effect interactive None = HasNoRoom effect
DoesArguments performs effect interactive (Some arguments) =
    (program : List ℕ) × IsProgram arguments program
    × DoesCommand performs effect (command_of interactive program (drop 1 arguments))
