-- Proves that reading the hexadecimal digits of a value returns the value.
use Rattle.std.proofs.Common.{◌≡◌, ℕ, zero, suc, ◌+◌, ◌*◌, ◌<◌, ◌/◌, ◌%◌, ◌^◌, List, [], ◌∷◌, ◌++◌, refl, ◌∙◌, arith}
use Rattle.std.proofs.lemmas.Bool.Decides.{nat_tests}
use Rattle.std.proofs.Math.Nat.{pow-suc}
use Rattle.xxh_io.specs.Hex.{hex_digit, hex_digits, digit_value, hex_value, hex_value_after}

hex_value_after-push : (before : ℕ) (cs : List ℕ) (c : ℕ) → hex_value_after before (cs ++ c ∷ []) ≡ hex_value_after before cs * 16 + digit_value c
hex_value_after-push before [] c = refl
hex_value_after-push before (x ∷ xs) c = hex_value_after-push (before * 16 + digit_value x) xs c

digit_value-hex_digit : (n : ℕ) → n < 16 → digit_value (hex_digit n) ≡ n
digit_value-hex_digit n small = grind (arith, nat_tests)

pub hex_value-hex_digits : (n value : ℕ) → value < 16 ^ n → hex_value (hex_digits n value) ≡ value
hex_value-hex_digits zero value fits = omega arith
hex_value-hex_digits (suc n) value fits =
    let low : value % 16 < 16 = omega arith in
    let whole : value < 16 ^ n * 16 = rw pow-suc at fits in
    let high : value / 16 < 16 ^ n = omega arith in
    hex_value_after-push 0 (hex_digits n (value / 16)) (hex_digit (value % 16)) ∙ rw (hex_value-hex_digits n (value / 16) high, digit_value-hex_digit (value % 16) low) (omega arith)

-- Rewrite rule for the tactics.
pub ruleset hex_laws = hex_value-hex_digits
