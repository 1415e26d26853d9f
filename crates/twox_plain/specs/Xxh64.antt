-- XXH64 of a list of bytes: the xxHash specification, "XXH64 algorithm description", steps 1 to 6. The list is read as
-- a whole, by absolute positions, and each accumulator is followed separately.
use Rattle.std.specs.Prelude.{ℕ, ◌+◌, ◌*◌, ◌/◌, ◌%◌, nat_lt, List, [], ◌∷◌, length, slice_index, bit_xor, if◌then◌else◌}
use Rattle.std.specs.Int.{w32, w64, rotate_left}
use Rattle.twox_words.specs.Word.{word_at, wrap_add, wrap_sub, wrap_mul, xor_shift, counted}
use Rattle.twox_plain.specs.Units.{after_units}

abbrev pub p1 : ℕ
p1 = 0x9E3779B185EBCA87

abbrev pub p2 : ℕ
p2 = 0xC2B2AE3D27D4EB4F

abbrev pub p3 : ℕ
p3 = 0x165667B19E3779F9

abbrev pub p4 : ℕ
p4 = 0x85EBCA77C2B2AE63

abbrev pub p5 : ℕ
p5 = 0x27D4EB2F165667C5

-- step 1: the accumulators before the first stripe
abbrev pub initial_accumulators : ℕ → List ℕ
initial_accumulators seed =
    wrap_add w64 (wrap_add w64 seed p1) p2 ∷ wrap_add w64 seed p2 ∷ seed ∷ wrap_sub w64 seed p1 ∷ []

-- step 2: an accumulator after a word
abbrev pub round : ℕ → ℕ → ℕ
round a word = wrap_mul w64 (rotate_left w64 (wrap_add w64 a (wrap_mul w64 word p2)) 31) p1

-- accumulator j after k stripes; stripe i adds the word at byte 32 * i + 8 * j
unfoldable pub accumulator : ℕ → List ℕ → ℕ → ℕ → ℕ
accumulator seed m j k =
    let initial = slice_index (initial_accumulators seed) j in
    after_units round (λ i. word_at w64 m (i * 32 + j * 8)) initial k

-- step 3: a value takes in an accumulator
abbrev pub merge : ℕ → ℕ → ℕ
merge x a = wrap_add w64 (wrap_mul w64 (bit_xor x (round 0 a)) p1) p4

-- the four accumulators as one value
abbrev pub convergence : ℕ → ℕ → ℕ → ℕ → ℕ
convergence a b c d =
    let two = wrap_add w64 (rotate_left w64 a 1) (rotate_left w64 b 7) in
    let sum = wrap_add w64 (wrap_add w64 two (rotate_left w64 c 12)) (rotate_left w64 d 18) in
    merge (merge (merge (merge sum a) b) c) d

-- steps 1, 3 and 4: the value before the bytes that fill no stripe
unfoldable pub start : ℕ → List ℕ → ℕ
start seed m =
    let k = length m / 32 in
    wrap_add w64
    (if nat_lt (length m) 32 then wrap_add w64 seed p5
    else
    convergence (accumulator seed m 0 k) (accumulator seed m 1 k) (accumulator seed m 2 k) (accumulator seed m 3 k))
    (counted (length m))

-- step 5: a value takes an eight-byte word, a four-byte word and a byte
abbrev pub take_eight : ℕ → ℕ → ℕ
take_eight x word = wrap_add w64 (wrap_mul w64 (rotate_left w64 (bit_xor x (round 0 word)) 27) p1) p4

abbrev pub take_four : ℕ → ℕ → ℕ
take_four x word = wrap_add w64 (wrap_mul w64 (rotate_left w64 (bit_xor x (wrap_mul w64 word p1)) 23) p2) p3

abbrev pub take_byte : ℕ → ℕ → ℕ
take_byte x byte = wrap_mul w64 (rotate_left w64 (bit_xor x (wrap_mul w64 byte p5)) 11) p1

-- x after the n bytes from byte i on: the eight-byte words, the four-byte word if there is one, the bytes
unfoldable pub after_eights : List ℕ → ℕ → ℕ → ℕ → ℕ
after_eights m i x n = after_units take_eight (λ u. word_at w64 m (i + u * 8)) x (n / 8)

unfoldable pub after_words : List ℕ → ℕ → ℕ → ℕ → ℕ
after_words m i x n =
    if nat_lt (n % 8) 4 then after_eights m i x n
    else take_four (after_eights m i x n) (word_at w32 m (i + n / 8 * 8))

unfoldable pub after_tail : List ℕ → ℕ → ℕ → ℕ → ℕ
after_tail m i x n = after_units take_byte (λ u. slice_index m (i + n / 4 * 4 + u)) (after_words m i x n) (n % 4)

-- step 6
abbrev pub avalanche : ℕ → ℕ
avalanche x = xor_shift (wrap_mul w64 (xor_shift (wrap_mul w64 (xor_shift x 33) p2) 29) p3) 32

-- the value of the bytes m under a seed below 2 ^ 64
unfoldable pub xxh64 : ℕ → List ℕ → ℕ
xxh64 seed m = avalanche (after_tail m (length m / 32 * 32) (start seed m) (length m % 32))
