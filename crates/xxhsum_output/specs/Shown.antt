-- Bytes as they are displayed on a terminal.
use Rattle.std.specs.Prelude.{ℕ, ◌/◌, ◌%◌, Bool, true, ◌||◌, ◌&&◌, not, nat_eq, nat_lt, List, [], ◌∷◌, if◌then◌else◌}
use Rattle.std.specs.List.{flat_map}
use Rattle.xxh_io.specs.Hex.{hex_digit}

-- True if the byte is printable ASCII, a newline or NUL.
abbrev pub is_plain : ℕ → Bool
is_plain byte = nat_eq byte 10 || (nat_eq byte 0 || (nat_lt 31 byte && nat_lt byte 127))

-- True if the byte, after the byte `before`, belongs to no control character. The control characters above 127 are the
-- bytes from 128 to 159, after 194 (UTF-8) or after a byte below 128.
abbrev pub is_calm : ℕ → ℕ → Bool
is_calm before byte =
    if nat_lt byte 128 then is_plain byte else (nat_lt 159 byte || (nat_lt 127 before && not (nat_eq before 194)))

-- True if none of the bytes, after the byte `before`, belongs to a control character.
abbrev pub is_clean : ℕ → List ℕ → Bool
is_clean before [] = true
is_clean before (byte ∷ bytes) = is_calm before byte && is_clean byte bytes

-- The byte as `\xHH`.
abbrev pub in_hex : ℕ → List ℕ
in_hex byte = 92 ∷ 120 ∷ hex_digit (byte / 16) ∷ hex_digit (byte % 16) ∷ []

abbrev pub shown_byte : ℕ → List ℕ
shown_byte byte = if is_plain byte then byte ∷ [] else in_hex byte

abbrev pub shown_all : List ℕ → List ℕ
shown_all bytes = flat_map shown_byte bytes

-- The text as displayed. If `is_on` and it has a control character, each byte of it that is not plain becomes `\xHH`.
abbrev pub shown : Bool → List ℕ → List ℕ
shown is_on bytes = if is_on && not (is_clean 0 bytes) then shown_all bytes else bytes
