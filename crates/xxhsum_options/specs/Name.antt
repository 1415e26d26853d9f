-- The algorithm of a program, by its name.
use Rattle.std.specs.Prelude.{ℕ, List, [], ◌∷◌, Bool, false, ◌||◌, nat_eq, codes, if◌then◌else◌}
use Rattle.std.specs.List.{starts_with}
use Rattle.xxh_io.specs.declared.kind.Kind.{Kind}
use Rattle.xxh_io.specs.declared.kind.Kind.TheVariants.{X32, X64, X3_64, X3_128}

-- True if the name contains this text, which is not empty.
abbrev pub has_part : List ℕ → List ℕ → Bool
has_part text [] = false
has_part text (c ∷ cs) = starts_with nat_eq (c ∷ cs) text || has_part text cs

-- The algorithm of the first of these names in the program's name, otherwise XXH64. Release 0.8.1 has no xxh3sum.
abbrev pub kind_of_program : List ℕ → Kind
kind_of_program name =
    if has_part (codes "xxh3sum") name then X3_64
    else if has_part (codes "xxh128sum") name then X3_128
    else if has_part (codes "xxh64sum") name then X64
    else if has_part (codes "xxh32sum") name then X32
    else X64
