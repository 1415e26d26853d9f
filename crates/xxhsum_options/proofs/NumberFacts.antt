-- Lemmas on the digits at the beginning of letters, and on the growth of a number with its digits.
use Rattle.std.proofs.Common.{◌≡◌, ℕ, ◌+◌, ◌*◌, ◌<◌, ◌≤◌, List, [], ◌∷◌, length, take, Bool, true, false, cond, refl, arith, take_while}
use Rattle.std.proofs.lemmas.List.Folds.{length-prefix_len}
use Rattle.std.proofs.lemmas.List.Sums.{take_while-cons}
use Rattle.std.specs.Char.{digit_value, is_ascii_digit}
use Rattle.std.specs.Str.{all_ascii_digits}
use Rattle.std.specs.Str.Parse.{digits_value_after}

all_ascii_digits-cond : (b : Bool) (c : ℕ) (cs : List ℕ) → is_ascii_digit c ≡ b → all_ascii_digits cs ≡ true → all_ascii_digits (cond b (c ∷ cs) []) ≡ true
all_ascii_digits-cond true c cs digit digits = rw (digit, digits) refl
all_ascii_digits-cond false c cs digit digits = refl

all_ascii_digits-take_while : (letters : List ℕ) → all_ascii_digits (take_while is_ascii_digit letters) ≡ true
all_ascii_digits-take_while [] = refl
all_ascii_digits-take_while (c ∷ cs) =
    rw (take_while-cons is_ascii_digit c cs) (all_ascii_digits-cond (is_ascii_digit c) c _ refl (all_ascii_digits-take_while cs))

-- Lemma: the letters before the first letter that is not a digit are digits.
pub all_ascii_digits_front : (letters : List ℕ) (count : ℕ) → count ≡ length (take_while is_ascii_digit letters) → all_ascii_digits (take count letters) ≡ true
all_ascii_digits_front letters count is_count =
    rw (is_count, length-prefix_len is_ascii_digit letters) (all_ascii_digits-take_while letters)

digits_value_after-ge : (n : ℕ) (digits : List ℕ) → n ≤ digits_value_after 10 n digits
digits_value_after-ge n [] = omega arith
digits_value_after-ge n (c ∷ cs) = omega (arith, digits_value_after-ge (n * 10 + digit_value c) cs)

-- Lemma: one or more further digits make a number at least ten times as large.
pub digits_value_after-grows : (n : ℕ) (digits : List ℕ) → 0 < length digits → n * 10 ≤ digits_value_after 10 n digits
digits_value_after-grows n [] some = omega (arith, some)
digits_value_after-grows n (c ∷ cs) some = omega (arith, digits_value_after-ge (n * 10 + digit_value c) cs)
