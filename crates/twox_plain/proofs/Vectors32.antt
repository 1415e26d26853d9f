-- Test vectors of XXH32, which a wrong constant, step or order in the definition fails. They are from the tests of the
-- Rust crate `twox-hash`, which has them from the C library.
use Rattle.std.proofs.Common.{◌≡◌, ℕ, zero, suc, ◌∷◌, ◌++◌, [], ◌+◌, List, codes, refl}
use Rattle.twox_words.specs.Word.{word_at}
use Rattle.twox_plain.specs.Units.{after_units}
use Rattle.twox_plain.specs.Xxh32.{accumulator, start, after_words, after_tail, xxh32}

-- The k numbers from i up.
abbrev counting : ℕ → ℕ → List ℕ
counting i zero = []
counting i (suc k) = i ∷ counting (i + 1) k

pub of_nothing : xxh32 0 [] ≡ 0x02cc5d05
unfolding word_at after_units accumulator start after_words after_tail xxh32
of_nothing = refl

pub of_answer : xxh32 0 (42 ∷ []) ≡ 0xe0fe705f
unfolding word_at after_units accumulator start after_words after_tail xxh32
of_answer = refl

pub of_hello : xxh32 0 (codes "Hello, world!" ++ 0 ∷ []) ≡ 0x9e5e7e93
unfolding word_at after_units accumulator start after_words after_tail xxh32
of_hello = refl

pub of_hundred : xxh32 0 (counting 0 100) ≡ 0x7f89ba44
unfolding word_at after_units accumulator start after_words after_tail xxh32
of_hundred = refl

pub of_nothing_seeded : xxh32 0x42c91977 [] ≡ 0xd6bf8459
unfolding word_at after_units accumulator start after_words after_tail xxh32
of_nothing_seeded = refl

pub of_hundred_seeded : xxh32 0x42c91977 (counting 0 100) ≡ 0x6d2f6c17
unfolding word_at after_units accumulator start after_words after_tail xxh32
of_hundred_seeded = refl
