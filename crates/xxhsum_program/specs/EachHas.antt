-- Elements that belong to lines or names.
use Rattle.std.specs.Prelude.{ℕ, List, [], ◌∷◌}

-- There are as many elements as lines or names, and each line or name has the element at its position.
abbrev pub EachHas : {T : Type 0} → (List ℕ → T → Type 0) → List (List ℕ) → List T → Type 0
EachHas has [] [] = Unit {0}
EachHas has [] (x ∷ xs) = ⊥
EachHas has (line ∷ lines) [] = ⊥
EachHas has (line ∷ lines) (x ∷ xs) = has line x × EachHas has lines xs
