-- Test vectors of XXH64, which a wrong constant, step or order in the definition fails. They are from the tests of the
-- Rust crate `twox-hash`, which has them from the C library.
use Rattle.std.proofs.Common.{◌≡◌, ℕ, zero, suc, ◌∷◌, ◌++◌, [], ◌+◌, List, codes, refl}
use Rattle.twox_words.specs.Word.{word_at}
use Rattle.twox_plain.specs.Units.{after_units}
use Rattle.twox_plain.specs.Xxh64.{accumulator, start, after_eights, after_words, after_tail, xxh64}

-- The k numbers from i up.
abbrev counting : ℕ → ℕ → List ℕ
counting i zero = []
counting i (suc k) = i ∷ counting (i + 1) k

pub of_some_bytes : xxh64 1234 (codes "some bytes") ≡ 0xeab55659a496d78b
unfolding word_at after_units accumulator start after_eights after_words after_tail xxh64
of_some_bytes = refl

pub of_nothing : xxh64 0 [] ≡ 0xef46db3751d8e999
unfolding word_at after_units accumulator start after_eights after_words after_tail xxh64
of_nothing = refl

pub of_answer : xxh64 0 (42 ∷ []) ≡ 0x0a9edecebeb03ae4
unfolding word_at after_units accumulator start after_eights after_words after_tail xxh64
of_answer = refl

pub of_hello : xxh64 0 (codes "Hello, world!" ++ 0 ∷ []) ≡ 0x7b06c531ea43e89f
unfolding word_at after_units accumulator start after_eights after_words after_tail xxh64
of_hello = refl

pub of_hundred : xxh64 0 (counting 0 100) ≡ 0x6ac1e58032166597
unfolding word_at after_units accumulator start after_eights after_words after_tail xxh64
of_hundred = refl

pub of_nothing_seeded : xxh64 0xae0543311b702d91 [] ≡ 0x4b6a04fcdf7a4672
unfolding word_at after_units accumulator start after_eights after_words after_tail xxh64
of_nothing_seeded = refl

pub of_hundred_seeded : xxh64 0xae0543311b702d91 (counting 0 100) ≡ 0x567e355e0682e1f1
unfolding word_at after_units accumulator start after_eights after_words after_tail xxh64
of_hundred_seeded = refl

pub of_wrapping_sum : xxh64 0xd82b14d0e9a9983a (120 ∷ []) ≡ 0xf953d52c12a9f5fb
unfolding word_at after_units accumulator start after_eights after_words after_tail xxh64
of_wrapping_sum = refl
