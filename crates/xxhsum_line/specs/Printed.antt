-- The printed lines.
use Rattle.std.specs.Prelude.{ℕ, Bool, List, [], ◌∷◌, ◌++◌, codes, if◌then◌else◌}
use Rattle.xxh_io.specs.Hex.{hex_digits}
use Rattle.xxh_io.specs.Kind.{digits_of}
use Rattle.xxh_io.specs.declared.kind.Kind.{Kind}
use Rattle.xxh_io.specs.declared.kind.Kind.TheVariants.{X32, X64, X3_64, X3_128}
use Rattle.xxhsum_line.specs.Digits.{in_order}
use Rattle.xxhsum_line.specs.Escapes.{escaped, mark_of}
use Rattle.xxhsum_line.specs.Tags.{tag_of}
use Rattle.xxhsum_line.specs.declared.printed.Shape.{Shape}
use Rattle.xxhsum_line.specs.declared.printed.Style.{Style}

-- The digits of a digest, in the chosen byte order.
abbrev pub shown : Kind → Bool → ℕ → List ℕ
shown kind is_little value = hex_digits (digits_of kind) (in_order kind is_little value)

-- The prefix of the digits in a plain line.
abbrev pub prefix_of : Kind → List ℕ
prefix_of X3_64 = codes "XXH3_"
prefix_of X32 = []
prefix_of X64 = []
prefix_of X3_128 = []

-- The digest in a plain line: the prefix and the digits.
abbrev pub digest_text : Kind → Bool → ℕ → List ℕ
digest_text kind is_little value = prefix_of kind ++ shown kind is_little value

-- A plain line: the prefix, the digits, two spaces and the name.
abbrev pub plain_text : Kind → Bool → ℕ → List ℕ → List ℕ
plain_text kind is_little value name = prefix_of kind ++ (shown kind is_little value ++ 32 ∷ 32 ∷ name)

-- The tag, followed by "_LE" if the digits are little-endian.
abbrev pub full_tag : Kind → Bool → List ℕ
full_tag kind is_little = tag_of kind ++ (if is_little then codes "_LE" else [])

-- A tagged line: the tag, " (", the name, ") = " and the digits.
abbrev pub tagged_text : Kind → Bool → ℕ → List ℕ → List ℕ
tagged_text kind is_little value name =
    full_tag kind is_little ++ 32 ∷ 40 ∷ (name ++ 41 ∷ 32 ∷ 61 ∷ 32 ∷ shown kind is_little value)

-- A line of either form, with this name unchanged.
abbrev pub formed : Kind → Shape → ℕ → List ℕ → List ℕ
formed kind shape value name =
    if shape.is_tagged
    then tagged_text kind shape.is_little value name
    else plain_text kind shape.is_little value name

-- The name as written in a line: unchanged in a line that ends with a NUL, otherwise escaped.
abbrev pub name_shown : Bool → List ℕ → List ℕ
name_shown is_raw name = if is_raw then name else escaped name

-- A line with an escaped name, without its newline.
abbrev pub text_of : Kind → Shape → ℕ → List ℕ → List ℕ
text_of kind shape value name = mark_of name ++ formed kind shape value (escaped name)

abbrev pub line_of : Kind → Shape → ℕ → List ℕ → List ℕ
line_of kind shape value name = text_of kind shape value name ++ 10 ∷ []

-- A line that ends with a NUL. Its name is not escaped, and no backslash is before it.
abbrev pub nul_line : Kind → Shape → ℕ → List ℕ → List ℕ
nul_line kind shape value name = formed kind shape value name ++ 0 ∷ []

abbrev pub styled_line : Kind → Style → ℕ → List ℕ → List ℕ
styled_line kind style value name =
    if style.ends_in_nul then nul_line kind style.shape value name else line_of kind style.shape value name
