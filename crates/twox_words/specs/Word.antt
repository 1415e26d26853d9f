-- Little-endian words of a list of bytes, by absolute position, and arithmetic on words. A word is a
-- number below 2 ^ 32, 2 ^ 64 or 2 ^ 128, and never a list of bits.
use Rattle.std.specs.Prelude.{ℕ, ◌+◌, ◌-◌, ◌*◌, ◌/◌, ◌%◌, ◌^◌, ◌<◌, List, take, drop, slice_index, bit_xor, min}
use mir.Val.{bits}
use Rattle.std.specs.Int.{Width, byte_len, from_le_bytes}

-- each element is a byte
abbrev pub IsBytes : List ℕ → Type 0
IsBytes m = (k : ℕ) → slice_index m k < 2 ^ 8

-- the word of `byte_len w` bytes that begins at byte i of m, its low byte first
unfoldable pub word_at : Width → List ℕ → ℕ → ℕ
word_at w m i = from_le_bytes w (take (byte_len w) (drop i m))

-- sums, differences and products, which wrap at the width
abbrev pub wrap_add : Width → ℕ → ℕ → ℕ
wrap_add w x y = (x + y) % 2 ^ bits w

abbrev pub wrap_sub : Width → ℕ → ℕ → ℕ
wrap_sub w x y = (x + (2 ^ bits w - y)) % 2 ^ bits w

abbrev pub wrap_mul : Width → ℕ → ℕ → ℕ
wrap_mul w x y = (x * y) % 2 ^ bits w

-- x xor itself shifted right by k
abbrev pub xor_shift : ℕ → ℕ → ℕ
xor_shift x k = bit_xor x (x / 2 ^ k)

-- the halves of a word of 64 bits, and of one of 128
abbrev pub low32 : ℕ → ℕ
low32 x = x % 2 ^ 32

abbrev pub high32 : ℕ → ℕ
high32 x = x / 2 ^ 32

abbrev pub low64 : ℕ → ℕ
low64 x = x % 2 ^ 64

abbrev pub high64 : ℕ → ℕ
high64 x = x / 2 ^ 64

-- the length as it is hashed: n, or 2 ^ 64 - 1 if n is larger
abbrev pub counted : ℕ → ℕ
counted n = min n (2 ^ 64 - 1)
