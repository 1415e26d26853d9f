-- A number at the start of letters: digits, and a unit after them.
use Rattle.std.specs.Prelude.{ℕ, ◌+◌, ◌*◌, ◌^◌, List, length, take, drop, take_while, nat_lt, bytes_eq, codes, Option, Some, None, Bool, if◌then◌else◌}
use Rattle.std.specs.Char.{is_ascii_digit}
use Rattle.std.specs.Str.Parse.{digits_value}
use Rattle.xxhsum_options.specs.declared.number.Number.{Number}
use Rattle.xxhsum_options.specs.declared.number.Unit as unit

-- True if the letters begin with this text.
abbrev pub begins_with : List ℕ → List ℕ → Bool
begins_with text letters = bytes_eq (take (length text) letters) text

-- The digits at the start of the letters.
abbrev pub digits_of : List ℕ → List ℕ
digits_of letters = take_while is_ascii_digit letters

-- The value of the digits. None if it is 4,294,967,290 or more.
abbrev pub value_named : List ℕ → Option ℕ
value_named digits =
    if nat_lt (digits_value 10 digits) 4294967290 then Some (digits_value 10 digits) else None

-- The number of letters after the K or M of a unit.
abbrev pub suffix_letters : List ℕ → ℕ
suffix_letters letters =
    if begins_with (codes "iB") letters then 2
    else if begins_with (codes "i") letters then 1
    else if begins_with (codes "B") letters then 1
    else 0

-- The unit at the start of the letters, of factor 1 if they begin with no unit.
abbrev pub unit_of : List ℕ → unit.Unit
unit_of letters =
    if begins_with (codes "K") letters
    then record { factor = 1024; letters = 1 + suffix_letters (drop 1 letters) }
    else if begins_with (codes "M") letters
    then record { factor = 1048576; letters = 1 + suffix_letters (drop 1 letters) }
    else record { factor = 1; letters = 0 }

-- The number of a value in this unit. None if it is 2^32 or more.
abbrev pub in_unit : ℕ → ℕ → unit.Unit → Option Number
in_unit value digits unit =
    if nat_lt (value * unit.factor) (2 ^ 32)
    then Some (record { value = value * unit.factor; letters = digits + unit.letters })
    else None

abbrev pub number_from : Option ℕ → ℕ → unit.Unit → Option Number
number_from (Some value) digits unit = in_unit value digits unit
number_from None digits unit = None

-- The number at the start of the letters, 0 if there is no digit. None if it is too large.
abbrev pub number_of : List ℕ → Option Number
number_of letters =
    let digits = digits_of letters in
    number_from (value_named digits) (length digits) (unit_of (drop (length digits) letters))
