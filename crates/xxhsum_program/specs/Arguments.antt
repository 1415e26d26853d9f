-- The arguments of a program.
use Rattle.std.specs.Prelude.{◌≡◌, ◌⊎◌, ℕ, ◌<◌, List, [], ◌∷◌, ◌++◌, length, get_or}
use Rattle.std.specs.declared.env.FillError.{FillError}
use Rattle.std.specs.declared.env.FillError.TheVariants.{NotPresent, TooLong}
use Rattle.xxhsum_line.specs.Parts.{Lacks}
use Rattle.xxhsum_program.specs.declared.arguments.ProcessArguments.{ProcessArguments}

-- The buffer of this capacity was not filled, for this reason.
abbrev pub Refuses : {A : Type 0} → (A → ℕ → Type 0) → (A → ℕ → ℕ → Type 0) → A → ℕ → ℕ → FillError → Type 0
Refuses ends exceeds arguments index room NotPresent = ends arguments index
Refuses ends exceeds arguments index room TooLong = exceeds arguments index room

-- These are all arguments: each has its index, and there is none after them.
abbrev pub AreArguments : {A : Type 0} → (A → ℕ → List ℕ → Type 0) → (A → ℕ → Type 0) → A → List (List ℕ) → Type 0
AreArguments holds ends arguments all =
    ((index : ℕ) → index < length all → holds arguments index (get_or all index [])) × ends arguments (length all)

-- The part is the rest of the path after its last slash, or the path if it has none.
abbrev pub IsLastPart : List ℕ → List ℕ → Type 0
IsLastPart path part =
    Lacks 47 part × ((part ≡ path) ⊎ ((front : List ℕ) × (path ≡ front ++ 47 ∷ part)))

-- ---- the arguments of a process, about which nothing is known

abbrev pub AnyArgument : {P : Type 0} → ProcessArguments P → ℕ → List ℕ → Type 0
AnyArgument arguments index bytes = Unit {0}

abbrev pub AnyEnd : {P : Type 0} → ProcessArguments P → ℕ → Type 0
AnyEnd arguments index = Unit {0}

abbrev pub AnyExcess : {P : Type 0} → ProcessArguments P → ℕ → ℕ → Type 0
AnyExcess arguments index room = Unit {0}
