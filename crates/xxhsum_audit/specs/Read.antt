-- All bytes of a source.
use Rattle.std.specs.Prelude.{ℕ, ◌≡◌, List, [], ◌∷◌, ◌++◌}
use Rattle.std.specs.List.{concat}
use Rattle.xxh_io.specs.Pieces.{NoneEmpty, Pieces, Step}
use Rattle.xxh_io.specs.Rules.{SourceRules}

-- Reads returned these bytes, and then the end of the input.
abbrev pub GivesAll : {R : Type 0} → Step R → R → R → List ℕ → Type 0
GivesAll gives old new bytes =
    (pieces : List (List ℕ)) × NoneEmpty pieces × Pieces gives old (pieces ++ [] ∷ []) new × (concat pieces ≡ bytes)

-- Any number of reads succeeded, and then one failed.
abbrev pub BreaksOff : {R : Type 0} → SourceRules R → R → R → Type 0
BreaksOff {R} reading old new =
    (pieces : List (List ℕ)) × (met : R) × NoneEmpty pieces × Pieces reading.gives old pieces met
    × reading.fails met new
