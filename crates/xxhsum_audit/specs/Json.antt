-- An audit as JSON text (RFC 8259): an object for each result, on a line of its own.
use Rattle.std.specs.Prelude.{ℕ, ◌≡◌, ◌&&◌, Bool, not, List, [], ◌∷◌, ◌++◌, Option, Some, None, codes, nat_eq, nat_le, nat_lt, option_map, if◌then◌else◌}
use Rattle.std.specs.Str.{is_utf8}
use Rattle.xxh_io.specs.Hex.{hex_digits}
use Rattle.xxhsum_audit.specs.Found.{Changed, Copied, Missing, Moved, New, Same, source_in, told}
use Rattle.xxhsum_audit.specs.Item.{Item, kind_of, value_of}
use Rattle.xxhsum_audit.specs.Text.{Classed, Remark, Unreadable, told_name, told_other}
use Rattle.xxhsum_line.specs.Laws.{IsOneLine}
use Rattle.xxhsum_line.specs.Printed.{digest_text}

-- A byte of a string (RFC 8259, section 7): a quotation mark, a backslash and control characters are escaped. If the
-- string is not UTF-8, each byte above 127 is a lone surrogate from U+DC80 on (section 8.2), as Python decodes it.
abbrev pub json_byte : Bool → ℕ → List ℕ
json_byte is_text c =
    if nat_eq c 34 then codes "\\\""
    else if nat_eq c 92 then codes "\\\\"
    else if nat_eq c 8 then codes "\\b"
    else if nat_eq c 9 then codes "\\t"
    else if nat_eq c 10 then codes "\\n"
    else if nat_eq c 12 then codes "\\f"
    else if nat_eq c 13 then codes "\\r"
    else if nat_lt c 32 then codes "\\u00" ++ hex_digits 2 c
    else if not is_text && (nat_le 128 c && nat_lt c 256) then codes "\\udc" ++ hex_digits 2 c
    else c ∷ []

abbrev pub json_bytes : Bool → List ℕ → List ℕ
json_bytes is_text [] = []
json_bytes is_text (c ∷ cs) = json_byte is_text c ++ json_bytes is_text cs

abbrev pub json_string : List ℕ → List ℕ
json_string bytes = 34 ∷ (json_bytes (is_utf8 bytes) bytes ++ 34 ∷ [])

-- A member after the bytes of its name, if it has a value.
abbrev pub member : List ℕ → Option (List ℕ) → List ℕ
member before None = []
member before (Some value) = before ++ json_string value

-- ---- the members of a result

abbrev pub told_state : Remark → List ℕ
told_state (Classed (Same line name)) = codes "same"
told_state (Classed (Changed line name)) = codes "changed"
told_state (Classed (Moved line name)) = codes "moved"
told_state (Classed (Copied first name)) = codes "copied"
told_state (Classed (New name)) = codes "new"
told_state (Classed (Missing line)) = codes "missing"
told_state (Unreadable name) = codes "unreadable"

-- The listed digest: of the name, of its old name, or of the file that it is a copy of.
abbrev pub told_listed : Remark → Option Item
told_listed (Classed (New name)) = None
told_listed (Classed found) = Some (source_in found)
told_listed (Unreadable name) = None

-- The digest that the file has.
abbrev pub told_actual : Remark → Option Item
told_actual (Classed (Missing line)) = None
told_actual (Classed found) = Some (told found)
told_actual (Unreadable name) = None

-- A digest as in a plain line of a list, in the chosen byte order.
abbrev pub digits_in : Bool → Option Item → Option (List ℕ)
digits_in is_little item = option_map (λ one. digest_text (kind_of one) is_little (value_of one)) item

-- The object of a result, and a newline.
abbrev pub remark_json : Bool → Remark → List ℕ
remark_json is_little remark =
    member (codes "{\"name\":") (Some (told_name remark)) ++ member (codes ",\"state\":") (Some (told_state remark))
    ++ member (codes ",\"from\":") (told_other remark)
    ++ member (codes ",\"listed\":") (digits_in is_little (told_listed remark))
    ++ member (codes ",\"actual\":") (digits_in is_little (told_actual remark)) ++ codes "}\n"

-- ---- laws

-- An object is one line, whatever names it has.
abbrev pub ObjectIsOneLine : Type 0
ObjectIsOneLine = (is_little : Bool) (remark : Remark) → IsOneLine (remark_json is_little remark)

-- Two objects with the same text, whatever follows it, have the same members.
abbrev pub ObjectsDiffer : Type 0
ObjectsDiffer =
    (is_little : Bool) (a b : Remark) (behind behind' : List ℕ)
    → remark_json is_little a ++ behind ≡ remark_json is_little b ++ behind'
    → (told_name a ≡ told_name b) × (told_state a ≡ told_state b) × (told_other a ≡ told_other b)
    × (digits_in is_little (told_listed a) ≡ digits_in is_little (told_listed b))
    × (digits_in is_little (told_actual a) ≡ digits_in is_little (told_actual b)) × (behind ≡ behind')
