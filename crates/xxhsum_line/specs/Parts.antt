-- The two forms of a line.
use Rattle.std.specs.Prelude.{ℕ, ◌≡◌, ◌≢◌, ◌==◌, List, [], ◌∷◌, ◌++◌, if◌then◌else◌}
use Rattle.xxhsum_line.specs.declared.parts.Parts.{Parts}
use Rattle.xxhsum_line.specs.declared.parts.Parts.TheVariants.{Plain, Tagged}

-- The byte is not in the list.
abbrev pub Lacks : ℕ → List ℕ → Type 0
Lacks byte [] = Unit {0}
Lacks byte (c ∷ cs) = (c ≢ byte) × Lacks byte cs

-- The line up to its first NUL, which is left out.
abbrev pub up_to_nul : List ℕ → List ℕ
up_to_nul [] = []
up_to_nul (c ∷ cs) = if c == 0 then [] else c ∷ up_to_nul cs

-- The line, without a carriage return at its end.
abbrev pub without_return : List ℕ → List ℕ
without_return [] = []
without_return (c ∷ []) = if c == 13 then [] else c ∷ []
without_return (c ∷ d ∷ cs) = c ∷ without_return (d ∷ cs)

-- The line is plain: digits without a space, a space, any byte except '(', and the name.
abbrev pub IsPlain : List ℕ → List ℕ → List ℕ → Type 0
IsPlain line digits name = (mark : ℕ) × (line ≡ digits ++ 32 ∷ mark ∷ name) × Lacks 32 digits × (mark ≢ 40)

-- The bytes after "TAG (" in a tagged line are the name, ") = " and digits without a space.
abbrev pub EndsTagged : List ℕ → List ℕ → List ℕ → Type 0
EndsTagged inside name digits = (inside ≡ name ++ 41 ∷ 32 ∷ 61 ∷ 32 ∷ digits) × Lacks 32 digits

-- The line is tagged: a tag without a space, " (", the name, ") = " and digits without a space.
abbrev pub IsTagged : List ℕ → List ℕ → List ℕ → List ℕ → Type 0
IsTagged line tag name digits =
    (line ≡ tag ++ 32 ∷ 40 ∷ (name ++ 41 ∷ 32 ∷ 61 ∷ 32 ∷ digits)) × Lacks 32 tag × Lacks 32 digits

-- The line has these parts.
abbrev pub HasParts : List ℕ → Parts → Type 0
HasParts line (Plain digits name) = IsPlain line digits.now name.now
HasParts line (Tagged tag name digits) = IsTagged line tag.now name.now digits.now

-- The line has neither form.
abbrev pub HasNoParts : List ℕ → Type 0
HasNoParts line =
    ((digits name : List ℕ) → ¬ IsPlain line digits name)
    × ((tag name digits : List ℕ) → ¬ IsTagged line tag name digits)

-- A tagged line with this tag, and with these bytes after "TAG (", has these parts.
abbrev pub IsTaggedWith : List ℕ → List ℕ → Parts → Type 0
IsTaggedWith tag inside (Plain digits name) = ⊥
IsTaggedWith tag inside (Tagged tag' name digits) = (tag'.now ≡ tag) × EndsTagged inside name.now digits.now

abbrev pub HasNoTaggedParts : List ℕ → Type 0
HasNoTaggedParts inside = (name digits : List ℕ) → ¬ EndsTagged inside name digits
