-- XXH32 of test cases of oracle/vectors.txt, checked by evaluation. The values are those of xxHash 0.8.1,
-- the reference library. Generated from the table by oracle/make-proofs.
use Rattle.std.specs.Prelude.{◌≡◌}
use Rattle.std.proofs.Common.{refl}
use Rattle.twox_plain.specs.Xxh32.{xxh32, start, accumulator, after_tail, after_words}
use Rattle.twox_words.specs.Word.{word_at}
use Rattle.twox_plain.specs.Units.{after_units}
use Rattle.twox_words.proofs.OutsideVectors.{drawn}

pub of_0_bytes_seeded : xxh32 0x20764753 (drawn 0x86ad14d4430c32b6 0) ≡ 0x38892884
unfolding xxh32 start after_units after_tail after_words drawn
of_0_bytes_seeded = refl

pub of_1_bytes_seeded : xxh32 0x5535098f (drawn 0x1a79312058b39663 1) ≡ 0x56ecbd5
unfolding xxh32 start after_units after_tail after_words drawn
of_1_bytes_seeded = refl

pub of_3_bytes_seeded : xxh32 0x8b1c5e3b (drawn 0xb6a11497bd5f9551 3) ≡ 0xe82fbc2a
unfolding xxh32 start after_units after_tail after_words drawn
of_3_bytes_seeded = refl

pub of_4_bytes_seeded : xxh32 0xcea9cf6 (drawn 0x5d0032063244d097 4) ≡ 0x746dedaa
unfolding xxh32 start word_at after_units after_tail after_words drawn
of_4_bytes_seeded = refl

pub of_7_bytes_seeded : xxh32 0xa9ec7c6d (drawn 0xf79edd7dd2b6ac75 7) ≡ 0x45bf31fb
unfolding xxh32 start word_at after_units after_tail after_words drawn
of_7_bytes_seeded = refl

pub of_13_bytes_seeded : xxh32 0x9a6c4ff4 (drawn 0xe9ca7bf6b0c347bb 13) ≡ 0xb7d8e5f8
unfolding xxh32 start word_at after_units after_tail after_words drawn
of_13_bytes_seeded = refl

pub of_15_bytes_seeded : xxh32 0xd35000d9 (drawn 0x7c232e1ec8217869 15) ≡ 0xf3ad29a8
unfolding xxh32 start word_at after_units after_tail after_words drawn
of_15_bytes_seeded = refl

pub of_16_bytes_seeded : xxh32 0xeef9cbe2 (drawn 0xaa2221383b9eabf5 16) ≡ 0x48958d54
unfolding xxh32 start accumulator word_at after_units after_tail after_words drawn
of_16_bytes_seeded = refl

pub of_17_bytes_seeded : xxh32 0xa0095a8d (drawn 0xdeb00a302bb59cb4 17) ≡ 0x67990c05
unfolding xxh32 start accumulator word_at after_units after_tail after_words drawn
of_17_bytes_seeded = refl

pub of_31_bytes_seeded : xxh32 0x86f8b893 (drawn 0x8d33c1a4270ad171 31) ≡ 0x1e6e5395
unfolding xxh32 start accumulator word_at after_units after_tail after_words drawn
of_31_bytes_seeded = refl

pub of_32_bytes_seeded : xxh32 0x2b048787 (drawn 0xfa79bdd4c0bb1fb8 32) ≡ 0xb1e5f86f
unfolding xxh32 start accumulator word_at after_units after_tail after_words drawn
of_32_bytes_seeded = refl

pub of_47_bytes_seeded : xxh32 0xe0ebc1ba (drawn 0xb4d46bff8ef57948 47) ≡ 0x2495f054
unfolding xxh32 start accumulator word_at after_units after_tail after_words drawn
of_47_bytes_seeded = refl

pub of_64_bytes_unseeded : xxh32 0x0 (drawn 0x486b0c4300686d0e 64) ≡ 0xe3dbb19
unfolding xxh32 start accumulator word_at after_units after_tail after_words drawn
of_64_bytes_unseeded = refl

pub of_64_bytes_seeded : xxh32 0x2fb5df28 (drawn 0x7c9d8932ed7a3e54 64) ≡ 0x198d90dc
unfolding xxh32 start accumulator word_at after_units after_tail after_words drawn
of_64_bytes_seeded = refl

pub of_65_bytes_seeded : xxh32 0x21715e4c (drawn 0xcf3123f261bbb3eb 65) ≡ 0x9dc8922
unfolding xxh32 start accumulator word_at after_units after_tail after_words drawn
of_65_bytes_seeded = refl

pub of_65_bytes_seeded_2 : xxh32 0xffffffff (drawn 0x179931a5d271bfb7 65) ≡ 0x30b14b45
unfolding xxh32 start accumulator word_at after_units after_tail after_words drawn
of_65_bytes_seeded_2 = refl
