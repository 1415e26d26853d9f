-- Numbers in hexadecimal, as bytes of ASCII text.
use Rattle.std.proofs.Common.{zero, suc, ℕ, ◌+◌, ◌-◌, ◌*◌, ◌/◌, ◌%◌, List, [], ◌∷◌, ◌++◌, nat_lt, if◌then◌else◌}

-- the lower-case digit of a number below 16: '0' is 48, and 'a' is 87 + 10
abbrev pub hex_digit : ℕ → ℕ
hex_digit n = if nat_lt n 10 then 48 + n else 87 + n

-- this many digits of the value, leading zeros among them, the lowest digit last
abbrev pub hex_digits : ℕ → ℕ → List ℕ
hex_digits zero value = []
hex_digits (suc n) value = hex_digits n (value / 16) ++ hex_digit (value % 16) ∷ []

-- the digits and a newline
unfoldable pub hex_line : ℕ → ℕ → List ℕ
hex_line digits value = hex_digits digits value ++ 10 ∷ []

-- the line of a block: its offset in 16 digits, a space, the value in 32 digits and a newline
unfoldable pub offset_line : ℕ → ℕ → List ℕ
offset_line offset value = hex_digits 16 offset ++ (32 ∷ hex_line 32 value)

-- the number of a lower-case digit
abbrev pub digit_value : ℕ → ℕ
digit_value c = if nat_lt c 58 then c - 48 else c - 87

-- the number of the digits, after others of the number `before`
abbrev pub hex_value_after : ℕ → List ℕ → ℕ
hex_value_after before [] = before
hex_value_after before (c ∷ cs) = hex_value_after (before * 16 + digit_value c) cs

abbrev pub hex_value : List ℕ → ℕ
hex_value digits = hex_value_after 0 digits
