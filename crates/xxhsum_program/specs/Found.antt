-- The state of a line's file, compared with the line.
use Rattle.std.specs.Prelude.{◌≢◌, ℕ, List}
use Rattle.xxhsum_program.specs.Prelude.{Files, Found, Kind}
use Rattle.xxhsum_program.specs.declared.entry.Found.TheVariants.{Same, Different, Unread}
use Rattle.xxhsum_program.specs.Outcomes.{HasNoValue, IsValueOf}

-- The file of this name has this value by this algorithm, another value, or none.
abbrev pub IsFound : {S F : Type 0} → Files S F → Kind → ℕ → List ℕ → Found → Type 0
IsFound files kind value name Same =
    IsValueOf files kind name value
IsFound files kind value name Different =
    (other : ℕ) × IsValueOf files kind name other × (other ≢ value)
IsFound files kind value name (Unread reason) =
    HasNoValue files name reason
