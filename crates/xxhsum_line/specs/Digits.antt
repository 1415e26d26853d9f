-- Hexadecimal digits of either case, and their values.
use Rattle.std.specs.Prelude.{ℕ, zero, suc, ◌+◌, ◌-◌, ◌*◌, ◌/◌, ◌%◌, ◌^◌, Bool, List, [], ◌∷◌, length, Option, Some, None, nat_le, nat_eq, ◌&&◌, option_and_then, option_map, if◌then◌else◌}
use Rattle.xxh_io.specs.Kind.{digits_of}
use Rattle.xxh_io.specs.declared.kind.Kind.{Kind}

-- The value of a hexadecimal digit. The bytes 48, 97 and 65 are '0', 'a' and 'A'.
abbrev pub digit_of : ℕ → Option ℕ
digit_of c =
    if nat_le 48 c && nat_le c 57 then Some (c - 48)
    else if nat_le 97 c && nat_le c 102 then Some (c - 87)
    else if nat_le 65 c && nat_le c 70 then Some (c - 55)
    else None

-- The value of digits that follow others with the value `before`. None if a byte is no digit.
abbrev pub number_after : ℕ → List ℕ → Option ℕ
number_after before [] = Some before
number_after before (c ∷ cs) = option_and_then (λ digit. number_after (before * 16 + digit) cs) (digit_of c)

abbrev pub number_of : List ℕ → Option ℕ
number_of digits = number_after 0 digits

-- The number of the lowest `count` bytes of `value`, in reverse order.
unfoldable pub bytes_reversed : ℕ → ℕ → ℕ
bytes_reversed zero value = 0
bytes_reversed (suc count) value = value % 256 * 256 ^ count + bytes_reversed count (value / 256)

-- The digest by this algorithm; if it is little-endian, with its bytes in reverse order.
abbrev pub in_order : Kind → Bool → ℕ → ℕ
in_order kind is_little value = if is_little then bytes_reversed (digits_of kind / 2) value else value

-- The digest of the digits. None if their number is not the algorithm's, or a byte is no digit.
abbrev pub value_shown : Kind → Bool → List ℕ → Option ℕ
value_shown kind is_little digits =
    if nat_eq (length digits) (digits_of kind) then option_map (in_order kind is_little) (number_of digits) else None
