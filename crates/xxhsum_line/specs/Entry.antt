-- The meaning of a line: a name, and its digest by an algorithm.
use Rattle.std.specs.Prelude.{ℕ, ◌≡◌, ◌⊎◌, Bool, false, List, [], ◌∷◌, Option, Some, nat_eq}
use Rattle.xxh_io.specs.declared.kind.Kind.{Kind}
use Rattle.xxhsum_line.specs.Digits.{value_shown}
use Rattle.xxhsum_line.specs.Escapes.{body_of, is_escaped, name_meant}
use Rattle.xxhsum_line.specs.Parts.{IsPlain, IsTagged, up_to_nul, without_return}
use Rattle.xxhsum_line.specs.Tags.{without_prefix, kind_of_digits, kind_of_tag, is_little_tag}

-- The digest of digits of this algorithm, with or without their prefix.
abbrev pub value_meant : Kind → Bool → List ℕ → Option ℕ
value_meant kind is_little digits = value_shown kind is_little (without_prefix kind digits)

-- The text is a plain line. Its digits determine the algorithm, and the caller chooses their byte order.
abbrev pub SaysPlain : Bool → List ℕ → Kind → ℕ → List ℕ → Type 0
SaysPlain is_little text kind value name =
    (digits : List ℕ) × IsPlain text digits name
    × (kind_of_digits digits ≡ Some kind) × (value_meant kind is_little digits ≡ Some value)

-- The text is a tagged line. Its tag determines the algorithm and the byte order of the digits.
abbrev pub SaysTagged : List ℕ → Kind → ℕ → List ℕ → Type 0
SaysTagged text kind value name =
    (tag : List ℕ) × (digits : List ℕ) × IsTagged text tag name digits
    × (kind_of_tag tag ≡ kind) × (value_meant kind (is_little_tag tag) digits ≡ Some value)

-- The text is a line of either form. The name is as written, before it is unescaped.
abbrev pub TextSays : Bool → List ℕ → Kind → ℕ → List ℕ → Type 0
TextSays is_little text kind value name =
    SaysPlain is_little text kind value name ⊎ SaysTagged text kind value name

abbrev pub TextSaysNothing : Bool → List ℕ → Type 0
TextSaysNothing is_little text =
    (kind : Kind) (value : ℕ) (name : List ℕ) → ¬ TextSays is_little text kind value name

-- True if the line is a comment: it begins with '#'.
abbrev pub is_comment : List ℕ → Bool
is_comment [] = false
is_comment (c ∷ cs) = nat_eq c 35

-- The line is an entry with this algorithm, value and name. It is not a comment. It is of either form, after a carriage
-- return at its end and then all bytes from a NUL on are removed. If it is escaped, its name is unescaped.
abbrev pub Says : Bool → List ℕ → Kind → ℕ → List ℕ → Type 0
Says is_little line kind value name =
    let text = up_to_nul (without_return line) in
    (is_comment line ≡ false)
    × (shown : List ℕ) × TextSays is_little (body_of text) kind value shown
    × (name_meant (is_escaped text) shown ≡ Some name)

-- The line is malformed: neither an entry nor a comment.
abbrev pub SaysNothing : Bool → List ℕ → Type 0
SaysNothing is_little line =
    (is_comment line ≡ false) × ((kind : Kind) (value : ℕ) (name : List ℕ) → ¬ Says is_little line kind value name)
