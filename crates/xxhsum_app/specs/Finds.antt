-- A value is found, or reported missing.
use Rattle.std.specs.Prelude.{◌≡◌, ◌⊎◌, ℕ, false, List, Option, Some, None, Result, Ok, Err}
use Rattle.xxhsum_app.specs.Prelude.{Effect, Eprints, OutOfMemory, SinkRules, Stop, one_line}
use Rattle.xxhsum_program.specs.Streams.{err_of}

-- It is found; or one line reports why it isn't; or memory ran out, and nothing is reported.
abbrev pub Finds : {T E : Type 0} → Result (Option T) Stop → SinkRules E → (T → Type 0) → (List ℕ → Type 0) → E → E → Type 0
Finds (Ok (Some found)) reporting is_found is_why old new = is_found found × (new ≡ old)
Finds (Ok None) reporting is_found is_why old new = (text : List ℕ) × is_why text × Eprints reporting (one_line text) old new
Finds (Err stop) reporting is_found is_why old new = (stop ≡ OutOfMemory) × (new ≡ old)

-- A text is reported as one line, nothing is printed, and the run fails.
abbrev pub OnlyReports : {W E : Type 0} → Effect W E → List ℕ → Type 0
OnlyReports effect text =
    (effect.result ≡ Ok false) × (effect.new.out ≡ effect.old.out)
    × Eprints effect.rules.reporting (one_line text) (err_of effect.old) (err_of effect.new)

-- Out of memory: nothing is printed or reported.
abbrev pub HasNoRoom : {W E : Type 0} → Effect W E → Type 0
HasNoRoom effect =
    (effect.result ≡ Err OutOfMemory) × (effect.new.out ≡ effect.old.out) × (err_of effect.new ≡ err_of effect.old)

-- The run continues with the value that is found; or only the reason why there is none is reported; or memory ran out.
abbrev pub AndThen : {T W E : Type 0} → Effect W E → (T → Type 0) → (List ℕ → Type 0) → (T → Type 0) → Type 0
AndThen {T} effect is_found is_why goes_on =
    ((found : T) × is_found found × goes_on found)
    ⊎ (((text : List ℕ) × is_why text × OnlyReports effect text) ⊎ HasNoRoom effect)
