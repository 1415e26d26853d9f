-- Escaped names: a backslash, a newline and a carriage return are written as a backslash and another byte.
use Rattle.std.specs.Prelude.{ℕ, Bool, true, false, ◌||◌, nat_eq, List, [], ◌∷◌, ◌++◌, drop, Option, Some, None, option_and_then, if◌then◌else◌}

-- A byte of a name, escaped. A backslash, a newline and a carriage return become two bytes.
abbrev pub escape : ℕ → List ℕ
escape c =
    if nat_eq c 92 then 92 ∷ 92 ∷ []
    else if nat_eq c 10 then 92 ∷ 110 ∷ []
    else if nat_eq c 13 then 92 ∷ 114 ∷ []
    else c ∷ []

abbrev pub escaped : List ℕ → List ℕ
escaped [] = []
escaped (c ∷ cs) = escape c ++ escaped cs

-- True if the byte needs an escape.
abbrev pub is_special : ℕ → Bool
is_special c = nat_eq c 92 || (nat_eq c 10 || nat_eq c 13)

abbrev pub needs_escape : List ℕ → Bool
needs_escape [] = false
needs_escape (c ∷ cs) = is_special c || needs_escape cs

-- The first byte of a name's line: a backslash if the name needs escapes, otherwise none.
abbrev pub mark_of : List ℕ → List ℕ
mark_of name = if needs_escape name then 92 ∷ [] else []

-- The text as one line: escaped, with a newline at its end, and with a backslash before it if a byte needs an escape.
abbrev pub one_line : List ℕ → List ℕ
one_line text = mark_of text ++ escaped text ++ 10 ∷ []

-- The byte that a backslash and this byte represent. None if they are no escape.
abbrev pub meant_by : ℕ → Option ℕ
meant_by c =
    if nat_eq c 92 then Some 92
    else if nat_eq c 110 then Some 10
    else if nat_eq c 114 then Some 13
    else None

-- The bytes of an optional list, after these bytes.
abbrev pub before : List ℕ → Option (List ℕ) → Option (List ℕ)
before bytes rest = option_and_then (λ others. Some (bytes ++ others)) rest

-- The unescaped bytes, after a backslash if the flag is true. None if an escape is invalid or incomplete.
abbrev pub meant_behind : Bool → List ℕ → Option (List ℕ)
meant_behind false [] = Some []
meant_behind true [] = None
meant_behind false (c ∷ cs) =
    if nat_eq c 92 then meant_behind true cs else before (c ∷ []) (meant_behind false cs)
meant_behind true (c ∷ cs) =
    option_and_then (λ b. before (b ∷ []) (meant_behind false cs)) (meant_by c)

-- The unescaped name. None if an escape is invalid or incomplete.
abbrev pub unescaped : List ℕ → Option (List ℕ)
unescaped text = meant_behind false text

-- True if the byte is a space or a tab.
abbrev pub is_blank : ℕ → Bool
is_blank c = nat_eq c 32 || nat_eq c 9

-- True if the line is escaped: its first byte except spaces and tabs is a backslash.
abbrev pub is_escaped : List ℕ → Bool
is_escaped [] = false
is_escaped (c ∷ cs) = if is_blank c then is_escaped cs else nat_eq c 92

-- The line, without its first byte if it is escaped.
abbrev pub body_of : List ℕ → List ℕ
body_of text = if is_escaped text then drop 1 text else text

-- The name, unescaped if the line is escaped.
abbrev pub name_meant : Bool → List ℕ → Option (List ℕ)
name_meant is_escaped text = if is_escaped then unescaped text else Some text
