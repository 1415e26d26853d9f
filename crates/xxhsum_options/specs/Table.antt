-- The meaning of a table of options.
use Rattle.std.specs.Prelude.{ℕ, List, [], ◌∷◌, true, ◌==◌, bytes_eq, codes, length, if◌then◌else◌}
use Rattle.std.specs.Borrow.{Bor}
use Rattle.std.specs.List.{concat, flat_map}
use Rattle.xxhsum_options.specs.declared.options.Options.{Options}
use Rattle.xxhsum_options.specs.declared.options.Step.{Step}
use Rattle.xxhsum_options.specs.declared.options.Step.TheVariants.{EndsAfter, IsWrong, Settles, Takes}
use Rattle.xxhsum_options.specs.declared.table.Action.{Action}
use Rattle.xxhsum_options.specs.declared.table.Action.TheVariants.{Checks, Audits, Formats, Walks, Excludes, Enters, Lists, Tags, TurnsRound, EndsInNul, Nothing, Quiets, Silences, IgnoresMissing, IsStrict, Warns, EndsOptions, Returns}

-- The effect of an option on these options.
abbrev pub action_step : Action → Options → Step
action_step Checks options = Takes (record options { checks = true })
action_step Audits options = Takes (record options { audits = true })
action_step Formats options = Takes (record options { awaits_format = true })
action_step Walks options = Takes (record options { walks = true })
action_step Excludes options = Takes (record options { awaits_pattern = true })
action_step Enters options = Takes (record options { awaits_directory = true })
action_step (Lists from) options = Takes (record options { names_from = from })
action_step Tags options = Takes (record options { is_tagged = true })
action_step TurnsRound options = Takes (record options { is_little_endian = true })
action_step EndsInNul options = Takes (record options { ends_in_nul = true })
action_step Nothing options = Takes options
action_step Quiets options = Takes (record options { is_quiet = true })
action_step Silences options = Takes (record options { is_status_only = true })
action_step IgnoresMissing options = Takes (record options { ignores_missing = true })
action_step IsStrict options = Takes (record options { is_strict = true })
action_step Warns options = Takes (record options { warns = true })
action_step EndsOptions options = EndsAfter
action_step (Returns parsed) options = Settles parsed

-- A row of the table: a letter, a name, its effect and its help. `seen` is the row of a slice's element.
abbrev pub Row : Type 0
Row = ℕ × record { now : List ℕ } × Action × record { now : List ℕ }

abbrev pub seen : ℕ × Bor (List ℕ) × Action × Bor (List ℕ) → Row
seen row = (row.0, record { now = row.1.now }, row.2, record { now = row.3.now })

-- The effect of the first row with this name, or with this letter.
abbrev pub of_name : List Row → Options → List ℕ → Step
of_name [] options name = IsWrong
of_name (row ∷ rows) options name =
    if bytes_eq name row.1.now then action_step row.2 options else of_name rows options name

abbrev pub of_letter : List Row → Options → ℕ → Step
of_letter [] options letter = IsWrong
of_letter (row ∷ rows) options letter =
    if letter == row.0 then action_step row.2 options else of_letter rows options letter

-- The lines of options in the help. An option without a letter has the letter `-`.
abbrev pub letter_text : ℕ → List ℕ
letter_text letter = if letter == 45 then [] else 45 ∷ letter ∷ 44 ∷ 32 ∷ []

abbrev pub row_text : ℕ → List ℕ → List ℕ → List ℕ
row_text letter name help =
    if length help == 0 then []
    else concat (codes "  " ∷ letter_text letter ∷ codes "--" ∷ name ∷ help ∷ codes "\n" ∷ [])

abbrev pub rows_text : List Row → List ℕ
rows_text rows = flat_map (λ row. row_text row.0 row.1.now row.3.now) rows
