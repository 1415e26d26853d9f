-- An audit as text: one record for each result, whatever names it contains.
use Rattle.std.specs.Prelude.{ℕ, ◌≡◌, ◌&&◌, ◌||◌, Bool, true, false, List, [], ◌∷◌, ◌++◌, Option, Some, None, codes, nat_eq, option_map, if◌then◌else◌}
use Rattle.std.specs.Borrow.{Bor}
use Rattle.xxhsum_audit.specs.Found.{Changed, Copied, Found, Missing, Moved, New, Same, told}
use Rattle.xxhsum_audit.specs.Item.{name_of}
use Rattle.xxhsum_line.specs.Escapes.{escape, escaped, needs_escape}
use Rattle.xxhsum_line.specs.Laws.{IsOneLine}
use Rattle.xxhsum_line.specs.Parts.{Lacks}

-- A line of a report: the result of a line or a name, or a name whose file or directory can't be read.
pub data Remark : Type 0 where
  Classed : Found → Remark
  Unreadable : List ℕ → Remark

-- The name that a remark is about, the words for its class, and the name that the words refer to, if any.
abbrev pub told_name : Remark → List ℕ
told_name (Classed found) = name_of (told found)
told_name (Unreadable name) = name

abbrev pub told_words : Remark → List ℕ
told_words (Classed (Same line name)) = codes "same"
told_words (Classed (Changed line name)) = codes "changed"
told_words (Classed (Moved line name)) = codes "moved from"
told_words (Classed (Copied first name)) = codes "copy of"
told_words (Classed (New name)) = codes "new"
told_words (Classed (Missing line)) = codes "missing"
told_words (Unreadable name) = codes "unreadable"

abbrev pub told_other : Remark → Option (List ℕ)
told_other (Classed (Moved line name)) = Some (name_of line)
told_other (Classed (Copied first name)) = Some (name_of first)
told_other remark = None

-- ---- lines

-- True if the byte is a space and the byte before it a colon.
abbrev pub is_separator : ℕ → ℕ → Bool
is_separator before c = nat_eq before 58 && nat_eq c 32

-- A byte of a first name, escaped: as in lists, and a space after a colon as a backslash and a space.
abbrev pub escape_behind : ℕ → ℕ → List ℕ
escape_behind before c = if is_separator before c then 92 ∷ 32 ∷ [] else escape c

-- A first name, escaped. `before` is the byte before it.
abbrev pub escaped_behind : ℕ → List ℕ → List ℕ
escaped_behind before [] = []
escaped_behind before (c ∷ cs) = escape_behind before c ++ escaped_behind c cs

-- True if the name contains a colon and a space.
abbrev pub has_separator : ℕ → List ℕ → Bool
has_separator before [] = false
has_separator before (c ∷ cs) = is_separator before c || has_separator c cs

abbrev pub other_needs_escape : Option (List ℕ) → Bool
other_needs_escape None = false
other_needs_escape (Some other) = needs_escape other

-- True if a byte of the names is escaped.
abbrev pub is_marked : List ℕ → Option (List ℕ) → Bool
is_marked name other = needs_escape name || (has_separator 0 name || other_needs_escape other)

abbrev pub other_escaped : Option (List ℕ) → List ℕ
other_escaped None = []
other_escaped (Some other) = 32 ∷ escaped other

-- The escaped names and the words.
abbrev pub body_of : List ℕ → List ℕ → Option (List ℕ) → List ℕ
body_of name words other = escaped_behind 0 name ++ 58 ∷ 32 ∷ (words ++ other_escaped other)

-- A line: with a backslash before it if a byte of the names is escaped.
abbrev pub line_text : List ℕ → List ℕ → Option (List ℕ) → List ℕ
line_text name words other = (if is_marked name other then 92 ∷ [] else []) ++ body_of name words other ++ 10 ∷ []

-- ---- records that end with a NUL

-- The name that the words refer to is a record of its own.
abbrev pub other_record : Option (List ℕ) → List ℕ
other_record None = []
other_record (Some other) = other ++ 0 ∷ []

abbrev pub nul_text : List ℕ → List ℕ → Option (List ℕ) → List ℕ
nul_text name words other = name ++ 58 ∷ 32 ∷ (words ++ 0 ∷ other_record other)

-- ---- both forms

abbrev pub formed : Bool → List ℕ → List ℕ → Option (List ℕ) → List ℕ
formed ends_in_nul name words other = if ends_in_nul then nul_text name words other else line_text name words other

abbrev pub remark_text : Bool → Remark → List ℕ
remark_text ends_in_nul remark = formed ends_in_nul (told_name remark) (told_words remark) (told_other remark)

-- The bytes of an optional text.
abbrev pub text_in : Option (Bor (List ℕ)) → Option (List ℕ)
text_in other = option_map (λ text. text.now) other

-- ---- laws

-- Both are about one name, and have the same class and the same other name.
abbrev pub IsSameRemark : Remark → Remark → Type 0
IsSameRemark a b = (told_name a ≡ told_name b) × (told_words a ≡ told_words b) × (told_other a ≡ told_other b)

-- A remark is one line, whatever names it has.
abbrev pub RemarkIsOneLine : Type 0
RemarkIsOneLine = (remark : Remark) → IsOneLine (remark_text false remark)

-- Two remarks with the same line, whatever follows it, are the same.
abbrev pub LinesDiffer : Type 0
LinesDiffer =
    (a b : Remark) (behind behind' : List ℕ) → remark_text false a ++ behind ≡ remark_text false b ++ behind'
    → IsSameRemark a b × (behind ≡ behind')

abbrev pub OtherLacks : ℕ → Option (List ℕ) → Type 0
OtherLacks byte None = Unit {0}
OtherLacks byte (Some other) = Lacks byte other

-- Neither name of a remark has a NUL.
abbrev pub HasNoNul : Remark → Type 0
HasNoNul remark = Lacks 0 (told_name remark) × OtherLacks 0 (told_other remark)

-- The same is true of records that end with a NUL, if no name has a NUL.
abbrev pub RecordsDiffer : Type 0
RecordsDiffer =
    (a b : Remark) (behind behind' : List ℕ) → HasNoNul a → HasNoNul b
    → remark_text true a ++ behind ≡ remark_text true b ++ behind' → IsSameRemark a b × (behind ≡ behind')
