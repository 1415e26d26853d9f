-- The effect of an argument of letters, each of them an option.
use Rattle.std.proofs.Common.{zero, suc, ℕ, List, [], ◌∷◌, ◌==◌, ◌||◌, Option, Some, None, if◌then◌else◌, Result, Ok, Err}
use Rattle.xxh_io.specs.declared.kind.Kind.{Kind}
use Rattle.xxh_io.specs.declared.kind.Kind.TheVariants.{X32, X64, X3_64, X3_128}
use Rattle.xxhsum_options.specs.declared.letters.Letter.{Letter}
use Rattle.xxhsum_options.specs.declared.number.Number.{Number}
use Rattle.xxhsum_options.specs.declared.options.ParsedArgs.TheVariants.{NumberTooLarge}
use Rattle.xxhsum_options.specs.declared.options.Options.{Options}
use Rattle.xxhsum_options.specs.declared.options.Step.{Step}
use Rattle.xxhsum_options.specs.declared.options.Step.TheVariants.{EndsAfter, EndsBefore, IsWrong, Settles, Takes}
use Rattle.xxhsum_options.specs.Number.{number_of}
use Rattle.xxhsum_options.specs.Table.{of_letter}
use Rattle.xxhsum_options.specs.declared.table.TheConstants.{ROWS}

-- The algorithm that `-H` with this number selects.
abbrev pub numbered_kind : ℕ → Option Kind
numbered_kind number =
    if number == 0 || number == 32 then Some X32
    else if number == 1 || number == 64 then Some X64
    else if number == 2 || number == 128 then Some X3_128
    else if number == 3 then Some X3_64
    else None

-- The result of a letter that takes no other letters, from its step.
abbrev pub alone : Step → Result Letter Step
alone (Takes options) = Ok (record { options = options; taken = 0 })
alone EndsBefore = Err EndsBefore
alone EndsAfter = Err EndsAfter
alone IsWrong = Err IsWrong
alone (Settles parsed) = Err (Settles parsed)

-- The result of `H`: its number selects the algorithm.
abbrev pub with_kind : Options → ℕ → Option Kind → Result Letter Step
with_kind options taken (Some kind) = Ok (record { options = record options { kind = kind }; taken = taken })
with_kind options taken None = Err IsWrong

abbrev pub with_number : Options → Option Number → Result Letter Step
with_number options (Some number) = with_kind options number.letters (numbered_kind number.value)
with_number options None = Err (Settles NumberTooLarge)

abbrev pub kind_step : Options → List ℕ → Result Letter Step
kind_step options after = with_number options (number_of after)

-- The result of `i` or `B`: its number changes nothing.
abbrev pub past_number : Options → Option Number → Result Letter Step
past_number options (Some number) = Ok (record { options = options; taken = number.letters })
past_number options None = Err (Settles NumberTooLarge)

abbrev pub skipped_number : Options → List ℕ → Result Letter Step
skipped_number options after = past_number options (number_of after)

-- The effect of a letter that these others follow. No letter follows `C`. `-` is no letter. `H`, `i` and `B` take a number.
abbrev pub letter_of : Options → ℕ → List ℕ → Result Letter Step
letter_of options letter after =
    if options.awaits_directory || letter == 45 then Err IsWrong
    else if letter == 72 then kind_step options after
    else if letter == 105 || letter == 66 then skipped_number options after
    else alone (of_letter ROWS options letter)

-- The effect of a letter, and of the letters after the ones that it takes.
abbrev pub after_letter : Result Letter Step → (ℕ → Options → Step) → Step
after_letter (Ok read) go_on = go_on read.taken read.options
after_letter (Err step) go_on = step

-- The effect of the letters, except the first `passed` ones, which belong to the letter before.
abbrev pub letters_step : ℕ → Options → List ℕ → Step
letters_step passed options [] = Takes options
letters_step (suc passed) options (letter ∷ after) = letters_step passed options after
letters_step zero options (letter ∷ after) =
    after_letter (letter_of options letter after) (λ taken next. letters_step taken next after)
