-- XXH64 of test cases of oracle/vectors.txt, checked by evaluation. The values are those of xxHash 0.8.1,
-- the reference library. Generated from the table by oracle/make-proofs.
use Rattle.std.specs.Prelude.{◌≡◌}
use Rattle.std.proofs.Common.{refl}
use Rattle.twox_words.specs.Word.{word_at}
use Rattle.twox_plain.specs.Units.{after_units}
use Rattle.twox_plain.specs.Xxh64.{xxh64, start, accumulator, after_tail, after_words, after_eights}
use Rattle.twox_words.proofs.OutsideVectors.{drawn}

pub of_0_bytes_seeded : xxh64 0x263779b261667c10 (drawn 0xa03088c49e60b1b3 0) ≡ 0xf61706642cc9a00e
unfolding after_units xxh64 start after_tail after_words after_eights drawn
of_0_bytes_seeded = refl

pub of_1_bytes_seeded : xxh64 0x48d459fb8b3cc37a (drawn 0x988aa88ee06f5d81 1) ≡ 0x61eaea17fc393d4c
unfolding after_units xxh64 start after_tail after_words after_eights drawn
of_1_bytes_seeded = refl

pub of_3_bytes_seeded : xxh64 0x1c7c446f11de4308 (drawn 0xd8a8953f01352d93 3) ≡ 0xdcd08fb7ff24f4c4
unfolding after_units xxh64 start after_tail after_words after_eights drawn
of_3_bytes_seeded = refl

pub of_4_bytes_seeded : xxh64 0xb34353c20cc92649 (drawn 0x610ba45bb452be75 4) ≡ 0x5082e367b8e7613f
unfolding word_at after_units xxh64 start after_tail after_words after_eights drawn
of_4_bytes_seeded = refl

pub of_7_bytes_seeded : xxh64 0xc95117e4b8b17303 (drawn 0xc06ae8ade47ff7ec 7) ≡ 0xcbe293d9d5fc3724
unfolding word_at after_units xxh64 start after_tail after_words after_eights drawn
of_7_bytes_seeded = refl

pub of_8_bytes_seeded : xxh64 0x4ce58b11268cb2ad (drawn 0x522838fad4133507 8) ≡ 0xe682cdccb9316a66
unfolding word_at after_units xxh64 start after_tail after_words after_eights drawn
of_8_bytes_seeded = refl

pub of_31_bytes_seeded : xxh64 0x7f724038a081cec (drawn 0xc74a37c89107908d 31) ≡ 0x8bde8cc3a8a483b8
unfolding word_at after_units xxh64 start after_tail after_words after_eights drawn
of_31_bytes_seeded = refl

pub of_32_bytes_seeded : xxh64 0x2360ebb9a7c5960d (drawn 0x49449ce683c9bbfa 32) ≡ 0xecf096c7ae1f2a04
unfolding word_at after_units xxh64 start accumulator after_tail after_words after_eights drawn
of_32_bytes_seeded = refl

pub of_33_bytes_seeded : xxh64 0x760c48313e84eda1 (drawn 0x1fb83696c425e5d 33) ≡ 0x855fc79bab05af0a
unfolding word_at after_units xxh64 start accumulator after_tail after_words after_eights drawn
of_33_bytes_seeded = refl

pub of_35_bytes_seeded : xxh64 0x99480b4f102109c5 (drawn 0xb3c5a351efe47ca 35) ≡ 0x1b122ac31f457121
unfolding word_at after_units xxh64 start accumulator after_tail after_words after_eights drawn
of_35_bytes_seeded = refl

pub of_56_bytes_seeded : xxh64 0xeed1a738d4ad2460 (drawn 0x468cb1ca2e053bd7 56) ≡ 0x1d71ef76d36683b1
unfolding word_at after_units xxh64 start accumulator after_tail after_words after_eights drawn
of_56_bytes_seeded = refl

pub of_63_bytes_seeded : xxh64 0xc84bf286077850 (drawn 0x4a903dd67465ba24 63) ≡ 0x5a728908c98d692a
unfolding word_at after_units xxh64 start accumulator after_tail after_words after_eights drawn
of_63_bytes_seeded = refl

pub of_64_bytes_seeded : xxh64 0xeaea003b245fdccd (drawn 0xc92aacc79e48f465 64) ≡ 0xe92017c73c84b506
unfolding word_at after_units xxh64 start accumulator after_tail after_words after_eights drawn
of_64_bytes_seeded = refl

pub of_65_bytes_seeded : xxh64 0x6b5368223b3a9569 (drawn 0xd6f15df44d7f5ed4 65) ≡ 0xb158c51d0d4dcec2
unfolding word_at after_units xxh64 start accumulator after_tail after_words after_eights drawn
of_65_bytes_seeded = refl

pub of_67_bytes_seeded : xxh64 0xe103e67fcc410f62 (drawn 0x3812f9a7b665974c 67) ≡ 0xedaba58438d26101
unfolding word_at after_units xxh64 start accumulator after_tail after_words after_eights drawn
of_67_bytes_seeded = refl

pub of_95_bytes_seeded : xxh64 0x9fef7c929bfd9df4 (drawn 0x1227aba991192332 95) ≡ 0xb7ce5f5aee56f24
unfolding word_at after_units xxh64 start accumulator after_tail after_words after_eights drawn
of_95_bytes_seeded = refl

pub of_99_bytes_unseeded : xxh64 0x0 (drawn 0x33072ba459dafc76 99) ≡ 0x40579e08d6bb21a5
unfolding word_at after_units xxh64 start accumulator after_tail after_words after_eights drawn
of_99_bytes_unseeded = refl

pub of_99_bytes_seeded : xxh64 0xaf69534cf08cdea6 (drawn 0x5863376f1044940e 99) ≡ 0xb10c229cf1a36519
unfolding word_at after_units xxh64 start accumulator after_tail after_words after_eights drawn
of_99_bytes_seeded = refl

pub of_128_bytes_seeded : xxh64 0xb3e143969a212d89 (drawn 0x207880c409b97625 128) ≡ 0xd48bdee09e7fa679
unfolding word_at after_units xxh64 start accumulator after_tail after_words after_eights drawn
of_128_bytes_seeded = refl

pub of_128_bytes_seeded_2 : xxh64 0xffffffff (drawn 0x3c243fb4c28167d7 128) ≡ 0xf853b348d6cf081d
unfolding word_at after_units xxh64 start accumulator after_tail after_words after_eights drawn
of_128_bytes_seeded_2 = refl
