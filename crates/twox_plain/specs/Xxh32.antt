-- XXH32 of a list of bytes: the xxHash specification, "XXH32 algorithm description", steps 1 to 6. The list is read as
-- a whole, by absolute positions, and each accumulator is followed separately.
use Rattle.std.specs.Prelude.{ℕ, ◌+◌, ◌*◌, ◌/◌, ◌%◌, ◌^◌, nat_lt, List, [], ◌∷◌, length, slice_index, if◌then◌else◌}
use Rattle.std.specs.Int.{w32, rotate_left}
use Rattle.twox_words.specs.Word.{word_at, wrap_add, wrap_sub, wrap_mul, xor_shift, counted}
use Rattle.twox_plain.specs.Units.{after_units}

abbrev pub p1 : ℕ
p1 = 0x9E3779B1

abbrev pub p2 : ℕ
p2 = 0x85EBCA77

abbrev pub p3 : ℕ
p3 = 0xC2B2AE3D

abbrev pub p4 : ℕ
p4 = 0x27D4EB2F

abbrev pub p5 : ℕ
p5 = 0x165667B1

-- step 1: the accumulators before the first stripe
abbrev pub initial_accumulators : ℕ → List ℕ
initial_accumulators seed =
    wrap_add w32 (wrap_add w32 seed p1) p2 ∷ wrap_add w32 seed p2 ∷ seed ∷ wrap_sub w32 seed p1 ∷ []

-- step 2: an accumulator after a word
abbrev pub round : ℕ → ℕ → ℕ
round a word = wrap_mul w32 (rotate_left w32 (wrap_add w32 a (wrap_mul w32 word p2)) 13) p1

-- accumulator j after k stripes; stripe i adds the word at byte 16 * i + 4 * j
unfoldable pub accumulator : ℕ → List ℕ → ℕ → ℕ → ℕ
accumulator seed m j k =
    let initial = slice_index (initial_accumulators seed) j in
    after_units round (λ i. word_at w32 m (i * 16 + j * 4)) initial k

-- step 3: the four accumulators as one value
abbrev pub convergence : ℕ → ℕ → ℕ → ℕ → ℕ
convergence a b c d =
    let two = wrap_add w32 (rotate_left w32 a 1) (rotate_left w32 b 7) in
    wrap_add w32 (wrap_add w32 two (rotate_left w32 c 12)) (rotate_left w32 d 18)

-- steps 1, 3 and 4: the value before the bytes that fill no stripe, which uses the low 32 bits of the length
unfoldable pub start : ℕ → List ℕ → ℕ
start seed m =
    let k = length m / 16 in
    wrap_add w32
    (if nat_lt (length m) 16 then wrap_add w32 seed p5
    else
    convergence (accumulator seed m 0 k) (accumulator seed m 1 k) (accumulator seed m 2 k) (accumulator seed m 3 k))
    (counted (length m) % 2 ^ 32)

-- step 5: a value takes a word and a byte
abbrev pub take_word : ℕ → ℕ → ℕ
take_word x word = wrap_mul w32 (rotate_left w32 (wrap_add w32 x (wrap_mul w32 word p3)) 17) p4

abbrev pub take_byte : ℕ → ℕ → ℕ
take_byte x byte = wrap_mul w32 (rotate_left w32 (wrap_add w32 x (wrap_mul w32 byte p5)) 11) p1

-- x after the n bytes from byte i on: the words, then the bytes
unfoldable pub after_words : List ℕ → ℕ → ℕ → ℕ → ℕ
after_words m i x n = after_units take_word (λ u. word_at w32 m (i + u * 4)) x (n / 4)

unfoldable pub after_tail : List ℕ → ℕ → ℕ → ℕ → ℕ
after_tail m i x n = after_units take_byte (λ u. slice_index m (i + n / 4 * 4 + u)) (after_words m i x n) (n % 4)

-- step 6
abbrev pub avalanche : ℕ → ℕ
avalanche x = xor_shift (wrap_mul w32 (xor_shift (wrap_mul w32 (xor_shift x 15) p2) 13) p3) 16

-- the value of the bytes m under a seed below 2 ^ 32
unfoldable pub xxh32 : ℕ → List ℕ → ℕ
xxh32 seed m = avalanche (after_tail m (length m / 16 * 16) (start seed m) (length m % 16))
