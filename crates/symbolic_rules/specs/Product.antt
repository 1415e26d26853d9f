-- The steps of a product of two words of 64 bits by the products of their halves.
use Rattle.std.specs.Prelude.{ℕ, ◌+◌, ◌*◌, ◌/◌, ◌%◌, ◌^◌}

-- the product of a's upper half and b's lower one, plus the carry of the lower halves' product
abbrev pub first_sum : ℕ → ℕ → ℕ
first_sum a b = a / 2 ^ 32 * (b % 2 ^ 32) + a % 2 ^ 32 * (b % 2 ^ 32) / 2 ^ 32

-- the lower half of that, plus the product of a's lower half and b's upper one
abbrev pub second_sum : ℕ → ℕ → ℕ
second_sum a b = first_sum a b % 2 ^ 32 + a % 2 ^ 32 * (b / 2 ^ 32)

-- the product of the upper halves, plus the carries of both sums
abbrev pub upper_word : ℕ → ℕ → ℕ
upper_word a b = a / 2 ^ 32 * (b / 2 ^ 32) + first_sum a b / 2 ^ 32 + second_sum a b / 2 ^ 32
