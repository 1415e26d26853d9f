-- The tags of lines, and their algorithms.
use Rattle.std.specs.Prelude.{ℕ, Bool, false, ◌||◌, List, [], ◌∷◌, Option, Some, None, nat_eq, codes, drop, length, if◌then◌else◌}
use Rattle.std.specs.List.{starts_with}
use Rattle.xxh_io.specs.declared.kind.Kind.{Kind}
use Rattle.xxh_io.specs.declared.kind.Kind.TheVariants.{X32, X64, X3_64, X3_128}

-- The algorithm of a plain line, by the number of its digits.
abbrev pub kind_of_count : ℕ → Option Kind
kind_of_count count =
    if nat_eq count 8 then Some X32
    else if nat_eq count 16 then Some X64
    else if nat_eq count 32 then Some X3_128
    else None

abbrev pub tag_of : Kind → List ℕ
tag_of X32 = codes "XXH32"
tag_of X64 = codes "XXH64"
tag_of X3_64 = codes "XXH3"
tag_of X3_128 = codes "XXH128"

abbrev pub begins_with : List ℕ → List ℕ → Bool
begins_with tag text = starts_with nat_eq tag text

-- True if the digits have the prefix of XXH3 64-bit. Without it, 16 digits of a plain line mean XXH64.
abbrev pub has_prefix : List ℕ → Bool
has_prefix digits = begins_with digits (codes "XXH3_")

-- The algorithm of a plain line, by its digits.
abbrev pub kind_of_digits : List ℕ → Option Kind
kind_of_digits digits = if has_prefix digits then Some X3_64 else kind_of_count (length digits)

-- The digits, without the prefix of XXH3 64-bit.
abbrev pub without_prefix : Kind → List ℕ → List ℕ
without_prefix X3_64 digits = if has_prefix digits then drop 5 digits else digits
without_prefix X32 digits = digits
without_prefix X64 digits = digits
without_prefix X3_128 digits = digits

-- The algorithm of a line with this tag: XXH64 if the tag is unknown.
abbrev pub kind_of_tag : List ℕ → Kind
kind_of_tag tag =
    if begins_with tag (codes "XXH32") then X32
    else if begins_with tag (codes "XXH64") then X64
    else if begins_with tag (codes "XXH128") then X3_128
    else if begins_with tag (codes "XXH3") then X3_64
    else X64

-- True if the tag contains "_LE".
abbrev pub is_little_tag : List ℕ → Bool
is_little_tag [] = false
is_little_tag (c ∷ cs) = begins_with (c ∷ cs) (codes "_LE") || is_little_tag cs
