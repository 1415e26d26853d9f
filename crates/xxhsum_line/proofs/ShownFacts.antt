-- Proves that reading the digits of a value returns the value.
use Rattle.xxhsum_line.proofs.Prelude.{add-one, pow-le-pow_right, ◌-◌, ◌≤◌, ◌≡◌, ◌≢◌, ◌⊎◌, ℕ, zero, suc, ◌+◌, ◌*◌, ◌/◌, ◌%◌, ◌^◌, ◌<◌, Bool, true, false, List, [], ◌∷◌, ◌++◌, length, Some, None, inl, inr, refl, sym, ap, subst, ◌∙◌, arith}
use Rattle.xxhsum_line.proofs.Prelude.{length-append, eq-eqb, option_and_then, pow-suc, nat_tests, option_and_then_some, same_Some, digits_of, Kind, X32, X64, X3_64, X3_128, digit_of, number_after, number_of, bytes_reversed, in_order}
use Rattle.xxhsum_line.proofs.Prelude.{option_map, value_shown, Lacks, shown}
use Rattle.xxh_io.specs.Hex.{hex_digit, hex_digits}
use Rattle.std.proofs.Math.Nat.{le-mul_of_pos_right, pow-succ'}
use Rattle.std.proofs.lemmas.Nat.{mul-add-lt}
use Rattle.xxhsum_line.proofs.LackFacts.{lacks_both}

-- Lemma: a digit after others multiplies their value by 16 and adds its own.
number_after-push : (before : ℕ) (cs : List ℕ) (c n : ℕ) → number_after before cs ≡ Some n
    → number_after before (cs ++ c ∷ []) ≡ option_and_then (λ digit. Some (n * 16 + digit)) (digit_of c)
number_after-push before [] c n e =
    ap (λ m. option_and_then (λ digit. Some (m * 16 + digit)) (digit_of c)) (same_Some before n e)
number_after-push before (x ∷ xs) c n e =
    option_and_then_some (λ digit. number_after (before * 16 + digit) xs) (digit_of x) n e (λ d is_d rest.
    ap (option_and_then (λ digit. number_after (before * 16 + digit) (xs ++ c ∷ []))) is_d
    ∙ number_after-push (before * 16 + d) xs c n rest)

digit_of-hex_digit : (n : ℕ) → n < 16 → digit_of (hex_digit n) ≡ Some n
digit_of-hex_digit n small = grind (arith, nat_tests)

number_of-hex_digits : (n value : ℕ) → value < 16 ^ n → number_of (hex_digits n value) ≡ Some value
number_of-hex_digits zero value fits = let none : 0 ≡ value = omega arith in ap Some none
number_of-hex_digits (suc n) value fits =
    let low : value % 16 < 16 = omega arith in
    let whole : value < 16 ^ n * 16 = rw pow-suc at fits in
    let high : value / 16 < 16 ^ n = omega arith in
    let both : value / 16 * 16 + value % 16 ≡ value = omega arith in
    number_after-push 0 (hex_digits n (value / 16)) (hex_digit (value % 16)) (value / 16) (number_of-hex_digits n (value / 16) high)
    ∙ ap (option_and_then (λ digit. Some (value / 16 * 16 + digit))) (digit_of-hex_digit (value % 16) low)
    ∙ ap Some both

length-hex_digits : (n value : ℕ) → length (hex_digits n value) ≡ n
length-hex_digits zero value = refl
length-hex_digits (suc n) value = simp length-append (omega (arith, length-hex_digits n (value / 16)))

-- Lemma: the number of reversed bytes fits the bytes.
pub reversed_fits : (n value : ℕ) → bytes_reversed n value < 256 ^ n
unfolding bytes_reversed
reversed_fits zero value = omega arith
reversed_fits (suc n) value =
    rw pow-succ' (omega (arith, mul-add-lt (value % 256) (256 ^ n) (bytes_reversed n (value / 256)) 256 (omega arith) (reversed_fits n (value / 256))))

-- Lemma: the highest of the bytes becomes the lowest.
reversed_high : (n a b : ℕ) → a < 256 → b < 256 ^ n → bytes_reversed (suc n) (a * 256 ^ n + b) ≡ bytes_reversed n b * 256 + a
unfolding bytes_reversed
reversed_high zero a b small fits = omega arith
reversed_high (suc n) a b small fits =
    let whole = pow-suc 256 n in
    let below : b / 256 < 256 ^ n = omega arith in
    let low : (a * (256 ^ n * 256) + b) % 256 ≡ b % 256 = omega arith in
    let rest : (a * (256 ^ n * 256) + b) / 256 ≡ a * 256 ^ n + b / 256 = omega arith in
    rw (whole, low, rest) (omega (arith, reversed_high n a (b / 256) small below))

reversed_twice : (n value : ℕ) → value < 256 ^ n → bytes_reversed n (bytes_reversed n value) ≡ value
unfolding bytes_reversed
reversed_twice zero value fits = omega arith
reversed_twice (suc n) value fits =
    let whole = pow-suc 256 n in
    let high = reversed_high n (value % 256) (bytes_reversed n (value / 256)) (omega arith) (reversed_fits n (value / 256)) in
    omega (arith, high, reversed_twice n (value / 256) (omega arith))

bytes_of_digits : (kind : Kind) → 256 ^ (digits_of kind / 2) ≡ 16 ^ digits_of kind
bytes_of_digits X32 = refl
bytes_of_digits X64 = refl
bytes_of_digits X3_64 = refl
bytes_of_digits X3_128 = refl

-- Lemma: the digest in the other byte order fits the digits.
pub in_order_fits : (kind : Kind) (is_little : Bool) (value : ℕ) → value < 16 ^ digits_of kind → in_order kind is_little value < 16 ^ digits_of kind
in_order_fits kind false value fits = fits
in_order_fits kind true value fits = subst (λ most. in_order kind true value < most) (bytes_of_digits kind) (reversed_fits (digits_of kind / 2) value)

-- Lemma: reversing the bytes of a digest twice returns the digest.
in_order_twice : (kind : Kind) (is_little : Bool) (value : ℕ) → value < 16 ^ digits_of kind → in_order kind is_little (in_order kind is_little value) ≡ value
in_order_twice kind false value fits = refl
in_order_twice kind true value fits = reversed_twice (digits_of kind / 2) value (subst (λ most. value < most) (sym (bytes_of_digits kind)) fits)

pub length-shown : (kind : Kind) (is_little : Bool) (value : ℕ) → length (shown kind is_little value) ≡ digits_of kind
length-shown kind is_little value = length-hex_digits (digits_of kind) (in_order kind is_little value)

pub value_shown-shown : (kind : Kind) (is_little : Bool) (value : ℕ) → value < 16 ^ digits_of kind
    → value_shown kind is_little (shown kind is_little value) ≡ Some value
value_shown-shown kind is_little value fits =
    let count = eq-eqb (length (shown kind is_little value)) (digits_of kind) (length-shown kind is_little value) in
    ap (λ t. mathlib.Core.Bool.cond t (option_map (in_order kind is_little) (number_of (shown kind is_little value))) None) count
    ∙ ap (option_map (in_order kind is_little)) (number_of-hex_digits (digits_of kind) (in_order kind is_little value) (in_order_fits kind is_little value fits))
    ∙ ap Some (in_order_twice kind is_little value fits)

-- Lemma: the lowest byte of the number becomes the next of the reversed bytes.
pub byte_moves : (n i reversed left all : ℕ) → i < n → reversed * 256 ^ (n - i) + bytes_reversed (n - i) left ≡ all
    → (reversed * 256 + left % 256) * 256 ^ (n - (i + 1)) + bytes_reversed (n - (i + 1)) (left / 256) ≡ all
unfolding bytes_reversed
byte_moves n i reversed left all more e =
    let next : n - i ≡ suc (n - (i + 1)) = omega arith in
    let here = rw (next, pow-suc) at e in
    omega arith

-- Lemma: the reversed bytes with the next one fit in 128 bits.
pub byte_fits : (n i reversed left value : ℕ) → n ≤ 16 → i < n → reversed * 256 ^ (n - i) + bytes_reversed (n - i) left ≡ bytes_reversed n value
    → reversed * 256 + left % 256 < 2 ^ 128
byte_fits n i reversed left value most more e =
    let some = reversed_fits (n - (i + 1)) 0 in
    let positive : 0 < 256 = omega arith in
    let higher : 256 ^ n ≤ 256 ^ 16 = pow-le-pow_right positive most in
    omega (
      arith,
      byte_moves n i reversed left (bytes_reversed n value) more e,
      reversed_fits n value,
      le-mul_of_pos_right {m = 256 ^ (n - (i + 1))} (reversed * 256 + left % 256) (omega arith),
    )

-- Lemmas on powers of 16, which bound the number of digits.
pub ruleset powers = (add-one, pow-suc, pow-le-pow_right)

-- Lemmas on the bytes of a number that are reversed one by one.
pub ruleset orders = (byte_moves, byte_fits, in_order_fits, reversed_fits)

-- A byte below '0', or between '9' and 'a', and so no lower-case digit.
abbrev pub IsNoDigit : ℕ → Type 0
IsNoDigit b = (b < 48) ⊎ ((57 < b) × (b < 97))

hex_differs : (b n : ℕ) → n < 16 → IsNoDigit b → hex_digit n ≢ b
hex_differs b n small (inl low) = λ e. grind (arith, nat_tests)
hex_differs b n small (inr between) = λ e. grind (arith, nat_tests)

pub lacks_hex : (b n value : ℕ) → IsNoDigit b → Lacks b (hex_digits n value)
lacks_hex b zero value none = tt
lacks_hex b (suc n) value none =
    let low : value % 16 < 16 = omega arith in
    lacks_both b (hex_digits n (value / 16)) (hex_digit (value % 16) ∷ []) (lacks_hex b n (value / 16) none) (hex_differs b (value % 16) low none, tt)

pub lacks_shown : (b : ℕ) (kind : Kind) (is_little : Bool) (value : ℕ) → IsNoDigit b → Lacks b (shown kind is_little value)
lacks_shown b kind is_little value none = lacks_hex b (digits_of kind) (in_order kind is_little value) none
