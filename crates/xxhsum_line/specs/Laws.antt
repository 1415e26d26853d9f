-- Laws of printed lines and of entries.
use Rattle.std.specs.Prelude.{ℕ, ◌≡◌, ◌<◌, ◌^◌, Bool, false, List, [], ◌∷◌, ◌++◌, Some}
use Rattle.xxh_io.specs.Kind.{digits_of}
use Rattle.xxh_io.specs.declared.kind.Kind.{Kind}
use Rattle.xxhsum_line.specs.Entry.{Says, is_comment}
use Rattle.xxhsum_line.specs.Escapes.{escaped, needs_escape, one_line, unescaped}
use Rattle.xxhsum_line.specs.Parts.{IsPlain, IsTagged, Lacks}
use Rattle.xxhsum_line.specs.Printed.{digest_text, text_of}
use Rattle.xxhsum_line.specs.declared.printed.Shape.{Shape}

-- A printed line means the entry that it was printed from, if the value fits the algorithm and the name has no NUL.
abbrev pub PrintedIsAccepted : Type 0
PrintedIsAccepted =
    (kind : Kind) (shape : Shape) (value : ℕ) (name : List ℕ) → value < 16 ^ digits_of kind → Lacks 0 name
    → Says shape.is_little (text_of kind shape value name) kind value name

-- A printed line has no newline before its end, whatever the name.
abbrev pub PrintedIsOneLine : Type 0
PrintedIsOneLine =
    (kind : Kind) (shape : Shape) (value : ℕ) (name : List ℕ) → Lacks 10 (text_of kind shape value name)

-- The bytes are one line: the last byte is a newline, and no other byte is.
abbrev pub IsOneLine : List ℕ → Type 0
IsOneLine line = (text : List ℕ) × (line ≡ text ++ 10 ∷ []) × Lacks 10 text

-- A text that is reported as one line is one line, whatever names it contains.
abbrev pub MessageIsOneLine : Type 0
MessageIsOneLine = (text : List ℕ) → IsOneLine (one_line text)

-- A text that needs no escape is reported unchanged, with a newline at its end.
abbrev pub PlainTextsStay : Type 0
PlainTextsStay = (text : List ℕ) → needs_escape text ≡ false → one_line text ≡ text ++ 10 ∷ []

-- No printed line is a comment.
abbrev pub PrintedIsNoComment : Type 0
PrintedIsNoComment =
    (kind : Kind) (shape : Shape) (value : ℕ) (name : List ℕ) → is_comment (text_of kind shape value name) ≡ false

-- Unescaping an escaped name returns the name. A name that needs no escape is written unchanged.
abbrev pub EscapeIsUndone : Type 0
EscapeIsUndone = (name : List ℕ) → unescaped (escaped name) ≡ Some name

abbrev pub PlainNamesStay : Type 0
PlainNamesStay = (name : List ℕ) → needs_escape name ≡ false → escaped name ≡ name

-- A line has at most one meaning.
abbrev pub SaysOneThing : Type 0
SaysOneThing =
    (is_little : Bool) (line : List ℕ) (kind kind' : Kind) (value value' : ℕ) (name name' : List ℕ)
    → Says is_little line kind value name → Says is_little line kind' value' name'
    → (kind ≡ kind') × (value ≡ value') × (name ≡ name')

-- Two digests with the same text are the same, if both fit their algorithms.
abbrev pub DigestsDiffer : Type 0
DigestsDiffer =
    (is_little : Bool) (kind kind' : Kind) (value value' : ℕ) → value < 16 ^ digits_of kind → value' < 16 ^ digits_of kind'
    → digest_text kind is_little value ≡ digest_text kind' is_little value' → (kind ≡ kind') × (value ≡ value')

-- A line has at most one form, and at most one split into parts.
abbrev pub PlainPartsAreOne : Type 0
PlainPartsAreOne =
    (line digits digits' name name' : List ℕ) → IsPlain line digits name → IsPlain line digits' name'
    → (digits ≡ digits') × (name ≡ name')

abbrev pub TaggedPartsAreOne : Type 0
TaggedPartsAreOne =
    (line tag tag' name name' digits digits' : List ℕ) → IsTagged line tag name digits → IsTagged line tag' name' digits'
    → (tag ≡ tag') × (name ≡ name') × (digits ≡ digits')

abbrev pub NotBothForms : Type 0
NotBothForms = (line digits name tag name' digits' : List ℕ) → IsPlain line digits name → ¬ IsTagged line tag name' digits'
