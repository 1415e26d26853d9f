-- Texts of several parts.
use Rattle.std.specs.Prelude.{ℕ, List, [], ◌∷◌, ◌++◌}
use Rattle.std.specs.Borrow.{Bor}

-- The parts, one after another.
abbrev pub joined : List (Bor (List ℕ)) → List ℕ
joined [] = []
joined (part ∷ parts) = part.now ++ joined parts
