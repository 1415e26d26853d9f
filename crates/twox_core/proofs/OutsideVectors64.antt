-- XXH3 of 64 bits of test cases of oracle/vectors.txt, checked by evaluation. The values are those of xxHash 0.8.1,
-- the reference library. Generated from the table by oracle/make-proofs.
use Rattle.std.specs.Prelude.{◌≡◌}
use Rattle.std.proofs.Common.{refl}
use Rattle.twox_words.specs.Word.{word_at}
use Rattle.twox_core.specs.Value.{xxh3_64, range_of, value64_in, effective_secret}
use Rattle.twox_core.specs.Short.{value64_0, combined_bytes, low_1_to_3, value64_4_to_8, mixed_seed, strong, value64_9_to_16}
use Rattle.twox_core.specs.Steps.{avalanche_xxh64, fold, avalanche, mix, sum_below}
use Rattle.twox_core.specs.Middle.{value64_17_to_128, both_ends, value64_129_to_240, early, later}
use Rattle.twox_core.specs.Long.{low_above_240, last_accumulator, accumulator_after, scramble_one, accumulate_one, merge_accumulators, pair_fold}
use Rattle.twox_core.specs.Secret.{default_secret, derived_secret, derived_pairs}
use Rattle.twox_words.proofs.OutsideVectors.{drawn}

pub of_0_bytes_seeded : xxh3_64 0x9c0b1f78c7585d7d (effective_secret (derived_secret 0x9c0b1f78c7585d7d) (drawn 0xaaa7f3ed1b82e577 0)) (drawn 0xaaa7f3ed1b82e577 0) ≡ 0xff26732e186928a0
unfolding word_at xxh3_64 range_of value64_in value64_0 avalanche_xxh64 default_secret derived_secret derived_pairs effective_secret drawn
of_0_bytes_seeded = refl

pub of_1_bytes_seeded : xxh3_64 0x46337a77a64ad2c4 (effective_secret (derived_secret 0x46337a77a64ad2c4) (drawn 0xb55bfdcf36c9362 1)) (drawn 0xb55bfdcf36c9362 1) ≡ 0x8fbdf2b80e1e3398
unfolding word_at xxh3_64 range_of value64_in avalanche_xxh64 combined_bytes low_1_to_3 default_secret derived_secret derived_pairs effective_secret drawn
of_1_bytes_seeded = refl

pub of_2_bytes_seeded : xxh3_64 0x65c3821fdf92feb0 (effective_secret (derived_secret 0x65c3821fdf92feb0) (drawn 0x60f458a2fab99ecd 2)) (drawn 0x60f458a2fab99ecd 2) ≡ 0x355c785aba3cd40d
unfolding word_at xxh3_64 range_of value64_in avalanche_xxh64 combined_bytes low_1_to_3 default_secret derived_secret derived_pairs effective_secret drawn
of_2_bytes_seeded = refl

pub of_3_bytes_unseeded : xxh3_64 0x0 (effective_secret (derived_secret 0x0) (drawn 0xe797cf96b5de774d 3)) (drawn 0xe797cf96b5de774d 3) ≡ 0x20710ff1d5001a17
unfolding word_at xxh3_64 range_of value64_in avalanche_xxh64 combined_bytes low_1_to_3 default_secret derived_secret derived_pairs effective_secret drawn
of_3_bytes_unseeded = refl

pub of_3_bytes_seeded : xxh3_64 0xafb3ce0240f1ef52 (effective_secret (derived_secret 0xafb3ce0240f1ef52) (drawn 0xb867909c5007b8e3 3)) (drawn 0xb867909c5007b8e3 3) ≡ 0x4d4000287b2fbbd7
unfolding word_at xxh3_64 range_of value64_in avalanche_xxh64 combined_bytes low_1_to_3 default_secret derived_secret derived_pairs effective_secret drawn
of_3_bytes_seeded = refl

pub of_4_bytes_seeded : xxh3_64 0xccab5fa297347cec (effective_secret (derived_secret 0xccab5fa297347cec) (drawn 0x77bdf38f4e0de83c 4)) (drawn 0x77bdf38f4e0de83c 4) ≡ 0xb0c574b891d823bd
unfolding word_at xxh3_64 range_of value64_in value64_4_to_8 mixed_seed strong default_secret derived_secret derived_pairs effective_secret drawn
of_4_bytes_seeded = refl

pub of_5_bytes_seeded : xxh3_64 0x8514a4dea1fcec95 (effective_secret (derived_secret 0x8514a4dea1fcec95) (drawn 0x9979a3b670af0b 5)) (drawn 0x9979a3b670af0b 5) ≡ 0xeac5175ce42a384a
unfolding word_at xxh3_64 range_of value64_in value64_4_to_8 mixed_seed strong default_secret derived_secret derived_pairs effective_secret drawn
of_5_bytes_seeded = refl

pub of_8_bytes_unseeded : xxh3_64 0x0 (effective_secret (derived_secret 0x0) (drawn 0xf05e342d47e591e1 8)) (drawn 0xf05e342d47e591e1 8) ≡ 0x8bb1061b6279c210
unfolding word_at xxh3_64 range_of value64_in value64_4_to_8 mixed_seed strong default_secret derived_secret derived_pairs effective_secret drawn
of_8_bytes_unseeded = refl

pub of_8_bytes_seeded : xxh3_64 0xf716af705a4e8e07 (effective_secret (derived_secret 0xf716af705a4e8e07) (drawn 0x6166878c53360282 8)) (drawn 0x6166878c53360282 8) ≡ 0x951558d77b0ce00f
unfolding word_at xxh3_64 range_of value64_in value64_4_to_8 mixed_seed strong default_secret derived_secret derived_pairs effective_secret drawn
of_8_bytes_seeded = refl

pub of_9_bytes_seeded : xxh3_64 0x647a8b0fe70f588b (effective_secret (derived_secret 0x647a8b0fe70f588b) (drawn 0x88bd174ccb6efafe 9)) (drawn 0x88bd174ccb6efafe 9) ≡ 0x33344d9c525999dd
unfolding word_at xxh3_64 range_of value64_in value64_9_to_16 fold avalanche default_secret derived_secret derived_pairs effective_secret drawn
of_9_bytes_seeded = refl

pub of_15_bytes_seeded : xxh3_64 0xaa9274c2bbedde7c (effective_secret (derived_secret 0xaa9274c2bbedde7c) (drawn 0x94065fced1609f83 15)) (drawn 0x94065fced1609f83 15) ≡ 0x67b648ddf6932dca
unfolding word_at xxh3_64 range_of value64_in value64_9_to_16 fold avalanche default_secret derived_secret derived_pairs effective_secret drawn
of_15_bytes_seeded = refl

pub of_16_bytes_unseeded : xxh3_64 0x0 (effective_secret (derived_secret 0x0) (drawn 0x8a32cbbc4ba21ac0 16)) (drawn 0x8a32cbbc4ba21ac0 16) ≡ 0x5928f3a9df43e9ed
unfolding word_at xxh3_64 range_of value64_in value64_9_to_16 fold avalanche default_secret derived_secret derived_pairs effective_secret drawn
of_16_bytes_unseeded = refl

pub of_16_bytes_seeded : xxh3_64 0x11413e05ecfef068 (effective_secret (derived_secret 0x11413e05ecfef068) (drawn 0x4278f99a4501eef5 16)) (drawn 0x4278f99a4501eef5 16) ≡ 0x6231972d5c7c82a3
unfolding word_at xxh3_64 range_of value64_in value64_9_to_16 fold avalanche default_secret derived_secret derived_pairs effective_secret drawn
of_16_bytes_seeded = refl

pub of_17_bytes_seeded : xxh3_64 0x4aab967c663aaf94 (effective_secret (derived_secret 0x4aab967c663aaf94) (drawn 0x340db8931beff9a7 17)) (drawn 0x340db8931beff9a7 17) ≡ 0x3b88f34a4013f8b4
unfolding word_at xxh3_64 range_of value64_in fold avalanche value64_17_to_128 both_ends mix sum_below default_secret derived_secret derived_pairs effective_secret drawn
of_17_bytes_seeded = refl

pub of_32_bytes_seeded : xxh3_64 0x1738d75e2a5c72d (effective_secret (derived_secret 0x1738d75e2a5c72d) (drawn 0x58cf8fd589105743 32)) (drawn 0x58cf8fd589105743 32) ≡ 0xbf931ad14a8503f8
unfolding word_at xxh3_64 range_of value64_in fold avalanche value64_17_to_128 both_ends mix sum_below default_secret derived_secret derived_pairs effective_secret drawn
of_32_bytes_seeded = refl

pub of_33_bytes_seeded : xxh3_64 0x3e8f09cbffe623d9 (effective_secret (derived_secret 0x3e8f09cbffe623d9) (drawn 0x4e941a3e27011aec 33)) (drawn 0x4e941a3e27011aec 33) ≡ 0x5e4a16a7b19489fb
unfolding word_at xxh3_64 range_of value64_in fold avalanche value64_17_to_128 both_ends mix sum_below default_secret derived_secret derived_pairs effective_secret drawn
of_33_bytes_seeded = refl

pub of_64_bytes_seeded : xxh3_64 0x40fefce786356cb6 (effective_secret (derived_secret 0x40fefce786356cb6) (drawn 0x1c8eca89b93dd310 64)) (drawn 0x1c8eca89b93dd310 64) ≡ 0x68fad93e04c45431
unfolding word_at xxh3_64 range_of value64_in fold avalanche value64_17_to_128 both_ends mix sum_below default_secret derived_secret derived_pairs effective_secret drawn
of_64_bytes_seeded = refl

pub of_65_bytes_seeded : xxh3_64 0x2b2461ea03d718b3 (effective_secret (derived_secret 0x2b2461ea03d718b3) (drawn 0x84d5352e8361a5f8 65)) (drawn 0x84d5352e8361a5f8 65) ≡ 0x6703f7cfabdc7ecc
unfolding word_at xxh3_64 range_of value64_in fold avalanche value64_17_to_128 both_ends mix sum_below default_secret derived_secret derived_pairs effective_secret drawn
of_65_bytes_seeded = refl

pub of_96_bytes_seeded : xxh3_64 0xe872f6ec3105d10b (effective_secret (derived_secret 0xe872f6ec3105d10b) (drawn 0xd34cd1df7b4c2d11 96)) (drawn 0xd34cd1df7b4c2d11 96) ≡ 0xbc8f0946d0cb195f
unfolding word_at xxh3_64 range_of value64_in fold avalanche value64_17_to_128 both_ends mix sum_below default_secret derived_secret derived_pairs effective_secret drawn
of_96_bytes_seeded = refl

pub of_97_bytes_seeded : xxh3_64 0xf26f4f9da8449d9e (effective_secret (derived_secret 0xf26f4f9da8449d9e) (drawn 0x83751c14d3a403d9 97)) (drawn 0x83751c14d3a403d9 97) ≡ 0x9ec1b511365026ea
unfolding word_at xxh3_64 range_of value64_in fold avalanche value64_17_to_128 both_ends mix sum_below default_secret derived_secret derived_pairs effective_secret drawn
of_97_bytes_seeded = refl

pub of_128_bytes_unseeded : xxh3_64 0x0 (effective_secret (derived_secret 0x0) (drawn 0x9223e9cb1b91af29 128)) (drawn 0x9223e9cb1b91af29 128) ≡ 0x77a8dc816eaf490a
unfolding word_at xxh3_64 range_of value64_in fold avalanche value64_17_to_128 both_ends mix sum_below default_secret derived_secret derived_pairs effective_secret drawn
of_128_bytes_unseeded = refl

pub of_128_bytes_seeded : xxh3_64 0xb4fe3aacba4f873b (effective_secret (derived_secret 0xb4fe3aacba4f873b) (drawn 0x919c07fc90466637 128)) (drawn 0x919c07fc90466637 128) ≡ 0x54558b75781e256b
unfolding word_at xxh3_64 range_of value64_in fold avalanche value64_17_to_128 both_ends mix sum_below default_secret derived_secret derived_pairs effective_secret drawn
of_128_bytes_seeded = refl

pub of_129_bytes_seeded : xxh3_64 0xfb8dd14269ae2cd1 (effective_secret (derived_secret 0xfb8dd14269ae2cd1) (drawn 0x93f85f8fec8f04d8 129)) (drawn 0x93f85f8fec8f04d8 129) ≡ 0x7d60ecf4545a84db
unfolding word_at xxh3_64 range_of value64_in fold avalanche mix sum_below value64_129_to_240 early default_secret derived_secret derived_pairs effective_secret drawn
of_129_bytes_seeded = refl

pub of_144_bytes_seeded : xxh3_64 0xbe84e3dc60ff09cd (effective_secret (derived_secret 0xbe84e3dc60ff09cd) (drawn 0xa6d09898d4541cf4 144)) (drawn 0xa6d09898d4541cf4 144) ≡ 0x85d1062ffd66c7be
unfolding word_at xxh3_64 range_of value64_in fold avalanche mix sum_below value64_129_to_240 early later default_secret derived_secret derived_pairs effective_secret drawn
of_144_bytes_seeded = refl

pub of_159_bytes_seeded : xxh3_64 0x9aee5b2f04583fc (effective_secret (derived_secret 0x9aee5b2f04583fc) (drawn 0x77535ab2d3d5a536 159)) (drawn 0x77535ab2d3d5a536 159) ≡ 0xd8dcd14e30ab8c89
unfolding word_at xxh3_64 range_of value64_in fold avalanche mix sum_below value64_129_to_240 early later default_secret derived_secret derived_pairs effective_secret drawn
of_159_bytes_seeded = refl

pub of_160_bytes_seeded : xxh3_64 0xafbb9bafded5e437 (effective_secret (derived_secret 0xafbb9bafded5e437) (drawn 0x12268d5116b071d4 160)) (drawn 0x12268d5116b071d4 160) ≡ 0xed3222e6f36354a9
unfolding word_at xxh3_64 range_of value64_in fold avalanche mix sum_below value64_129_to_240 early later default_secret derived_secret derived_pairs effective_secret drawn
of_160_bytes_seeded = refl

pub of_191_bytes_seeded : xxh3_64 0x861ea9c610c6d108 (effective_secret (derived_secret 0x861ea9c610c6d108) (drawn 0xe7084250037a858 191)) (drawn 0xe7084250037a858 191) ≡ 0xff4992091a311155
unfolding word_at xxh3_64 range_of value64_in fold avalanche mix sum_below value64_129_to_240 early later default_secret derived_secret derived_pairs effective_secret drawn
of_191_bytes_seeded = refl

pub of_192_bytes_seeded : xxh3_64 0xbf0a81e21c79c0a7 (effective_secret (derived_secret 0xbf0a81e21c79c0a7) (drawn 0x38f78ba9aaceb817 192)) (drawn 0x38f78ba9aaceb817 192) ≡ 0x1a21222586da4df2
unfolding word_at xxh3_64 range_of value64_in fold avalanche mix sum_below value64_129_to_240 early later default_secret derived_secret derived_pairs effective_secret drawn
of_192_bytes_seeded = refl

pub of_224_bytes_seeded : xxh3_64 0xa6b7162c8c194d19 (effective_secret (derived_secret 0xa6b7162c8c194d19) (drawn 0xa423be3a6d3a0a4d 224)) (drawn 0xa423be3a6d3a0a4d 224) ≡ 0xa31bdc71cc86ae38
unfolding word_at xxh3_64 range_of value64_in fold avalanche mix sum_below value64_129_to_240 early later default_secret derived_secret derived_pairs effective_secret drawn
of_224_bytes_seeded = refl

pub of_239_bytes_seeded : xxh3_64 0xd05cd67b54a48414 (effective_secret (derived_secret 0xd05cd67b54a48414) (drawn 0x3b79afe6527ae75a 239)) (drawn 0x3b79afe6527ae75a 239) ≡ 0x113117756c10d65c
unfolding word_at xxh3_64 range_of value64_in fold avalanche mix sum_below value64_129_to_240 early later default_secret derived_secret derived_pairs effective_secret drawn
of_239_bytes_seeded = refl

pub of_240_bytes_unseeded : xxh3_64 0x0 (effective_secret (derived_secret 0x0) (drawn 0x7d2aacca8b96481c 240)) (drawn 0x7d2aacca8b96481c 240) ≡ 0xf426af20b7e7a089
unfolding word_at xxh3_64 range_of value64_in fold avalanche mix sum_below value64_129_to_240 early later default_secret derived_secret derived_pairs effective_secret drawn
of_240_bytes_unseeded = refl

pub of_240_bytes_seeded : xxh3_64 0x61ab2cd54c3d914b (effective_secret (derived_secret 0x61ab2cd54c3d914b) (drawn 0x1c64fe62f508e38c 240)) (drawn 0x1c64fe62f508e38c 240) ≡ 0xdab4c76abc40f7f6
unfolding word_at xxh3_64 range_of value64_in fold avalanche mix sum_below value64_129_to_240 early later default_secret derived_secret derived_pairs effective_secret drawn
of_240_bytes_seeded = refl

pub of_241_bytes_seeded : xxh3_64 0x2223a63f65168816 (effective_secret (derived_secret 0x2223a63f65168816) (drawn 0xdb73059e427ca758 241)) (drawn 0xdb73059e427ca758 241) ≡ 0x5b5ae2bdc7055075
unfolding word_at xxh3_64 range_of value64_in fold avalanche sum_below low_above_240 last_accumulator accumulator_after accumulate_one merge_accumulators pair_fold default_secret derived_secret derived_pairs effective_secret drawn
of_241_bytes_seeded = refl

pub of_3_bytes_seeded_2 : xxh3_64 0x8000000000000000 (effective_secret (derived_secret 0x8000000000000000) (drawn 0xb2a5211f74f96446 3)) (drawn 0xb2a5211f74f96446 3) ≡ 0x3bf70984a41bb4e8
unfolding word_at xxh3_64 range_of value64_in avalanche_xxh64 combined_bytes low_1_to_3 default_secret derived_secret derived_pairs effective_secret drawn
of_3_bytes_seeded_2 = refl

pub of_3_bytes_seeded_3 : xxh3_64 0xffffffffffffffff (effective_secret (derived_secret 0xffffffffffffffff) (drawn 0x9295739dd6dd470e 3)) (drawn 0x9295739dd6dd470e 3) ≡ 0xef10051e305be771
unfolding word_at xxh3_64 range_of value64_in avalanche_xxh64 combined_bytes low_1_to_3 default_secret derived_secret derived_pairs effective_secret drawn
of_3_bytes_seeded_3 = refl

pub of_8_bytes_seeded_2 : xxh3_64 0x8000000000000000 (effective_secret (derived_secret 0x8000000000000000) (drawn 0xb60d90f3e6ab3ab3 8)) (drawn 0xb60d90f3e6ab3ab3 8) ≡ 0x7feb2acda603a37b
unfolding word_at xxh3_64 range_of value64_in value64_4_to_8 mixed_seed strong default_secret derived_secret derived_pairs effective_secret drawn
of_8_bytes_seeded_2 = refl

pub of_8_bytes_seeded_3 : xxh3_64 0xffffffffffffffff (effective_secret (derived_secret 0xffffffffffffffff) (drawn 0x93e652038cf2a006 8)) (drawn 0x93e652038cf2a006 8) ≡ 0xcf21f9dbf933f5a4
unfolding word_at xxh3_64 range_of value64_in value64_4_to_8 mixed_seed strong default_secret derived_secret derived_pairs effective_secret drawn
of_8_bytes_seeded_3 = refl

pub of_16_bytes_seeded_2 : xxh3_64 0x8000000000000000 (effective_secret (derived_secret 0x8000000000000000) (drawn 0x9cf58acc92933439 16)) (drawn 0x9cf58acc92933439 16) ≡ 0x1be345310b022bd4
unfolding word_at xxh3_64 range_of value64_in value64_9_to_16 fold avalanche default_secret derived_secret derived_pairs effective_secret drawn
of_16_bytes_seeded_2 = refl

pub of_16_bytes_seeded_3 : xxh3_64 0xffffffffffffffff (effective_secret (derived_secret 0xffffffffffffffff) (drawn 0xaca8d357b1de3c11 16)) (drawn 0xaca8d357b1de3c11 16) ≡ 0xd1dda6ff2d5a1b4
unfolding word_at xxh3_64 range_of value64_in value64_9_to_16 fold avalanche default_secret derived_secret derived_pairs effective_secret drawn
of_16_bytes_seeded_3 = refl

pub of_128_bytes_seeded_2 : xxh3_64 0x8000000000000000 (effective_secret (derived_secret 0x8000000000000000) (drawn 0xfaf47fbaa56bec16 128)) (drawn 0xfaf47fbaa56bec16 128) ≡ 0xac0a719609a1bdc5
unfolding word_at xxh3_64 range_of value64_in fold avalanche value64_17_to_128 both_ends mix sum_below default_secret derived_secret derived_pairs effective_secret drawn
of_128_bytes_seeded_2 = refl

pub of_128_bytes_seeded_3 : xxh3_64 0xffffffffffffffff (effective_secret (derived_secret 0xffffffffffffffff) (drawn 0x2f6ac3f00bc4fe4e 128)) (drawn 0x2f6ac3f00bc4fe4e 128) ≡ 0x536651b13f7ab45
unfolding word_at xxh3_64 range_of value64_in fold avalanche value64_17_to_128 both_ends mix sum_below default_secret derived_secret derived_pairs effective_secret drawn
of_128_bytes_seeded_3 = refl

pub of_240_bytes_seeded_2 : xxh3_64 0x8000000000000000 (effective_secret (derived_secret 0x8000000000000000) (drawn 0x7808e6ac1031c87e 240)) (drawn 0x7808e6ac1031c87e 240) ≡ 0x550acd9f59abd53b
unfolding word_at xxh3_64 range_of value64_in fold avalanche mix sum_below value64_129_to_240 early later default_secret derived_secret derived_pairs effective_secret drawn
of_240_bytes_seeded_2 = refl

pub of_240_bytes_seeded_3 : xxh3_64 0xffffffffffffffff (effective_secret (derived_secret 0xffffffffffffffff) (drawn 0xd8d224bb95b0746e 240)) (drawn 0xd8d224bb95b0746e 240) ≡ 0xa1929c7df6c549b7
unfolding word_at xxh3_64 range_of value64_in fold avalanche mix sum_below value64_129_to_240 early later default_secret derived_secret derived_pairs effective_secret drawn
of_240_bytes_seeded_3 = refl

pub of_320_bytes_seeded : xxh3_64 0x51e03945083d15d4 (effective_secret (derived_secret 0x51e03945083d15d4) (drawn 0x27fc5cd77ef27824 320)) (drawn 0x27fc5cd77ef27824 320) ≡ 0x55e883825a1dd206
unfolding word_at xxh3_64 range_of value64_in fold avalanche sum_below low_above_240 last_accumulator accumulator_after accumulate_one merge_accumulators pair_fold default_secret derived_secret derived_pairs effective_secret drawn
of_320_bytes_seeded = refl

pub of_512_bytes_seeded : xxh3_64 0x41196a64e3a2f7fa (effective_secret (derived_secret 0x41196a64e3a2f7fa) (drawn 0x62f639b654c831d9 512)) (drawn 0x62f639b654c831d9 512) ≡ 0xd94c58ada0296de
unfolding word_at xxh3_64 range_of value64_in fold avalanche sum_below low_above_240 last_accumulator accumulator_after accumulate_one merge_accumulators pair_fold default_secret derived_secret derived_pairs effective_secret drawn
of_512_bytes_seeded = refl

pub of_1024_bytes_seeded : xxh3_64 0xc85f8fdb154c4c29 (effective_secret (derived_secret 0xc85f8fdb154c4c29) (drawn 0x3ad6c417cc5bc16b 1024)) (drawn 0x3ad6c417cc5bc16b 1024) ≡ 0x235d4c9fcecd9ff0
unfolding word_at xxh3_64 range_of value64_in fold avalanche sum_below low_above_240 last_accumulator accumulator_after accumulate_one merge_accumulators pair_fold default_secret derived_secret derived_pairs effective_secret drawn
of_1024_bytes_seeded = refl

pub of_1025_bytes_unseeded : xxh3_64 0x0 (effective_secret (derived_secret 0x0) (drawn 0x708757498412fef1 1025)) (drawn 0x708757498412fef1 1025) ≡ 0xc667da92602a8d0c
unfolding word_at xxh3_64 range_of value64_in fold avalanche sum_below low_above_240 last_accumulator accumulator_after scramble_one accumulate_one merge_accumulators pair_fold default_secret derived_secret derived_pairs effective_secret drawn
of_1025_bytes_unseeded = refl

pub of_1025_bytes_seeded : xxh3_64 0x44ed4710596cde94 (effective_secret (derived_secret 0x44ed4710596cde94) (drawn 0xf17d50a87c7ebb62 1025)) (drawn 0xf17d50a87c7ebb62 1025) ≡ 0x123c582f125fc0e0
unfolding word_at xxh3_64 range_of value64_in fold avalanche sum_below low_above_240 last_accumulator accumulator_after scramble_one accumulate_one merge_accumulators pair_fold default_secret derived_secret derived_pairs effective_secret drawn
of_1025_bytes_seeded = refl

pub of_1088_bytes_seeded : xxh3_64 0xaaa460f5f6edcf6 (effective_secret (derived_secret 0xaaa460f5f6edcf6) (drawn 0x3c3105bc1dd7b41e 1088)) (drawn 0x3c3105bc1dd7b41e 1088) ≡ 0xe4213d52de33b939
unfolding word_at xxh3_64 range_of value64_in fold avalanche sum_below low_above_240 last_accumulator accumulator_after scramble_one accumulate_one merge_accumulators pair_fold default_secret derived_secret derived_pairs effective_secret drawn
of_1088_bytes_seeded = refl

pub of_1089_bytes_seeded : xxh3_64 0x746d99bf5d6e308e (effective_secret (derived_secret 0x746d99bf5d6e308e) (drawn 0x1dcd53cedc2bb87e 1089)) (drawn 0x1dcd53cedc2bb87e 1089) ≡ 0x92d197a17206832f
unfolding word_at xxh3_64 range_of value64_in fold avalanche sum_below low_above_240 last_accumulator accumulator_after scramble_one accumulate_one merge_accumulators pair_fold default_secret derived_secret derived_pairs effective_secret drawn
of_1089_bytes_seeded = refl

pub of_0_bytes_keyed_by_136 : xxh3_64 0 (drawn 0x5b4c609c90d500a0 136) (drawn 0xc710d4551869cdfb 0) ≡ 0xac6af9d4aa3db041
unfolding word_at xxh3_64 range_of value64_in value64_0 avalanche_xxh64 drawn
of_0_bytes_keyed_by_136 = refl

pub of_3_bytes_keyed_by_136 : xxh3_64 0 (drawn 0xf689eab666f92f45 136) (drawn 0x9562b6638de054ec 3) ≡ 0xd775f7868fbf8470
unfolding word_at xxh3_64 range_of value64_in avalanche_xxh64 combined_bytes low_1_to_3 drawn
of_3_bytes_keyed_by_136 = refl

pub of_8_bytes_keyed_by_136 : xxh3_64 0 (drawn 0x76071f2b5ad6a578 136) (drawn 0x84bc63374a2dff06 8) ≡ 0xace032da4b1a497
unfolding word_at xxh3_64 range_of value64_in value64_4_to_8 mixed_seed strong drawn
of_8_bytes_keyed_by_136 = refl

pub of_16_bytes_keyed_by_136 : xxh3_64 0 (drawn 0x7a4ef0a5cbb3c419 136) (drawn 0x4f16d9e7d0328592 16) ≡ 0x98896840a67d390
unfolding word_at xxh3_64 range_of value64_in value64_9_to_16 fold avalanche drawn
of_16_bytes_keyed_by_136 = refl

pub of_128_bytes_keyed_by_136 : xxh3_64 0 (drawn 0x12786f60918d007b 136) (drawn 0x28c5040610e5a6b6 128) ≡ 0xe7267a7612ba71d8
unfolding word_at xxh3_64 range_of value64_in fold avalanche value64_17_to_128 both_ends mix sum_below drawn
of_128_bytes_keyed_by_136 = refl

pub of_240_bytes_keyed_by_136 : xxh3_64 0 (drawn 0xc036922c7694f3e1 136) (drawn 0xc5832fb3ac32b488 240) ≡ 0xc4d3df7fd003c13a
unfolding word_at xxh3_64 range_of value64_in fold avalanche mix sum_below value64_129_to_240 early later drawn
of_240_bytes_keyed_by_136 = refl

pub of_240_bytes_seeded_and_keyed_by_136 : xxh3_64 0xcc6f1e060b443d31 (effective_secret (drawn 0x4b9815ac51a39c2 136) (drawn 0xe7d9d0b511b50246 240)) (drawn 0xe7d9d0b511b50246 240) ≡ 0xa953595beb701180
unfolding word_at xxh3_64 range_of value64_in fold avalanche mix sum_below value64_129_to_240 early later default_secret effective_secret drawn
of_240_bytes_seeded_and_keyed_by_136 = refl

pub of_577_bytes_keyed_by_136 : xxh3_64 0 (drawn 0xc0526061d8e6f8b9 136) (drawn 0xc26b2f30315167f6 577) ≡ 0x4a8bfc42d4f8f481
unfolding word_at xxh3_64 range_of value64_in fold avalanche sum_below low_above_240 last_accumulator accumulator_after scramble_one accumulate_one merge_accumulators pair_fold drawn
of_577_bytes_keyed_by_136 = refl

pub of_577_bytes_seeded_and_keyed_by_136 : xxh3_64 0x36568df2c8816eb4 (effective_secret (drawn 0xe4b4f2bc92ea257e 136) (drawn 0x42d11c378bee3b08 577)) (drawn 0x42d11c378bee3b08 577) ≡ 0xe4c0287b222e5f69
unfolding word_at xxh3_64 range_of value64_in fold avalanche sum_below low_above_240 last_accumulator accumulator_after scramble_one accumulate_one merge_accumulators pair_fold effective_secret drawn
of_577_bytes_seeded_and_keyed_by_136 = refl

pub of_640_bytes_keyed_by_136 : xxh3_64 0 (drawn 0x852285427765d4c3 136) (drawn 0x96bb1bcd319899f0 640) ≡ 0x2937d27d2a2ff2bf
unfolding word_at xxh3_64 range_of value64_in fold avalanche sum_below low_above_240 last_accumulator accumulator_after scramble_one accumulate_one merge_accumulators pair_fold drawn
of_640_bytes_keyed_by_136 = refl

pub of_640_bytes_seeded_and_keyed_by_136 : xxh3_64 0xe5dba1aad01c0df6 (effective_secret (drawn 0xb8b98738632081b5 136) (drawn 0x6852fef50f324faa 640)) (drawn 0x6852fef50f324faa 640) ≡ 0xd61eaca138246191
unfolding word_at xxh3_64 range_of value64_in fold avalanche sum_below low_above_240 last_accumulator accumulator_after scramble_one accumulate_one merge_accumulators pair_fold effective_secret drawn
of_640_bytes_seeded_and_keyed_by_136 = refl

pub of_641_bytes_keyed_by_137 : xxh3_64 0 (drawn 0x3749633205e9d592 137) (drawn 0x78419675b4ee56ff 641) ≡ 0x187bed2d711aa8c4
unfolding word_at xxh3_64 range_of value64_in fold avalanche sum_below low_above_240 last_accumulator accumulator_after scramble_one accumulate_one merge_accumulators pair_fold drawn
of_641_bytes_keyed_by_137 = refl

pub of_641_bytes_seeded_and_keyed_by_137 : xxh3_64 0x2f73718cec75ddb9 (effective_secret (drawn 0xc52aa3ee947802bc 137) (drawn 0xe0893f82645722b9 641)) (drawn 0xe0893f82645722b9 641) ≡ 0x3a27d8dc89a16438
unfolding word_at xxh3_64 range_of value64_in fold avalanche sum_below low_above_240 last_accumulator accumulator_after scramble_one accumulate_one merge_accumulators pair_fold effective_secret drawn
of_641_bytes_seeded_and_keyed_by_137 = refl

pub of_577_bytes_keyed_by_143 : xxh3_64 0 (drawn 0xa6f69b54f95aa448 143) (drawn 0x7f8142d8740bbe34 577) ≡ 0xdc727943f7b7734c
unfolding word_at xxh3_64 range_of value64_in fold avalanche sum_below low_above_240 last_accumulator accumulator_after scramble_one accumulate_one merge_accumulators pair_fold drawn
of_577_bytes_keyed_by_143 = refl

pub of_577_bytes_seeded_and_keyed_by_143 : xxh3_64 0x5104bec581254920 (effective_secret (drawn 0xceb69921e4dd306 143) (drawn 0xd99996754880300 577)) (drawn 0xd99996754880300 577) ≡ 0xbe1a35be3d06232c
unfolding word_at xxh3_64 range_of value64_in fold avalanche sum_below low_above_240 last_accumulator accumulator_after scramble_one accumulate_one merge_accumulators pair_fold effective_secret drawn
of_577_bytes_seeded_and_keyed_by_143 = refl

pub of_640_bytes_keyed_by_143 : xxh3_64 0 (drawn 0xaba16b5b146201c4 143) (drawn 0x3d48fd9263f56c1c 640) ≡ 0xb8ce8f76f74a9e94
unfolding word_at xxh3_64 range_of value64_in fold avalanche sum_below low_above_240 last_accumulator accumulator_after scramble_one accumulate_one merge_accumulators pair_fold drawn
of_640_bytes_keyed_by_143 = refl

pub of_640_bytes_seeded_and_keyed_by_143 : xxh3_64 0x206f03ae9cb3a0d4 (effective_secret (drawn 0xacdff925b1131d6e 143) (drawn 0xbc4e6820937c34c7 640)) (drawn 0xbc4e6820937c34c7 640) ≡ 0x6173909cff926468
unfolding word_at xxh3_64 range_of value64_in fold avalanche sum_below low_above_240 last_accumulator accumulator_after scramble_one accumulate_one merge_accumulators pair_fold effective_secret drawn
of_640_bytes_seeded_and_keyed_by_143 = refl

pub of_641_bytes_keyed_by_143 : xxh3_64 0 (drawn 0xda01b99a5004d330 143) (drawn 0xaabd7687c527295 641) ≡ 0xd1c67f86263c9ff1
unfolding word_at xxh3_64 range_of value64_in fold avalanche sum_below low_above_240 last_accumulator accumulator_after scramble_one accumulate_one merge_accumulators pair_fold drawn
of_641_bytes_keyed_by_143 = refl

pub of_641_bytes_seeded_and_keyed_by_143 : xxh3_64 0xa21afd7e55f4d475 (effective_secret (drawn 0x8ea11b3c8b5ec73b 143) (drawn 0xc0136991d2da1696 641)) (drawn 0xc0136991d2da1696 641) ≡ 0xbfccfbe01af36db1
unfolding word_at xxh3_64 range_of value64_in fold avalanche sum_below low_above_240 last_accumulator accumulator_after scramble_one accumulate_one merge_accumulators pair_fold effective_secret drawn
of_641_bytes_seeded_and_keyed_by_143 = refl

pub of_640_bytes_keyed_by_144 : xxh3_64 0 (drawn 0xe53e8a9aceaeed38 144) (drawn 0xec6a72f5c23d9018 640) ≡ 0xec9ef125f1dcf8f0
unfolding word_at xxh3_64 range_of value64_in fold avalanche sum_below low_above_240 last_accumulator accumulator_after accumulate_one merge_accumulators pair_fold drawn
of_640_bytes_keyed_by_144 = refl

pub of_640_bytes_seeded_and_keyed_by_144 : xxh3_64 0x9ca65aebf5dc79fc (effective_secret (drawn 0x5c6b6f41fa17d19f 144) (drawn 0x25d612b670ebfee2 640)) (drawn 0x25d612b670ebfee2 640) ≡ 0x3fc95ff1585af52
unfolding word_at xxh3_64 range_of value64_in fold avalanche sum_below low_above_240 last_accumulator accumulator_after accumulate_one merge_accumulators pair_fold effective_secret drawn
of_640_bytes_seeded_and_keyed_by_144 = refl

pub of_641_bytes_keyed_by_144 : xxh3_64 0 (drawn 0x353c2004d1ec4db3 144) (drawn 0xf3656634a6083e0f 641) ≡ 0x505757508183f3aa
unfolding word_at xxh3_64 range_of value64_in fold avalanche sum_below low_above_240 last_accumulator accumulator_after scramble_one accumulate_one merge_accumulators pair_fold drawn
of_641_bytes_keyed_by_144 = refl

pub of_641_bytes_seeded_and_keyed_by_144 : xxh3_64 0x4db8baa492c50b36 (effective_secret (drawn 0xd077d3b3192596db 144) (drawn 0x36c49698193a99e8 641)) (drawn 0x36c49698193a99e8 641) ≡ 0xee9885d3f5cd7da9
unfolding word_at xxh3_64 range_of value64_in fold avalanche sum_below low_above_240 last_accumulator accumulator_after scramble_one accumulate_one merge_accumulators pair_fold effective_secret drawn
of_641_bytes_seeded_and_keyed_by_144 = refl

pub of_1025_bytes_keyed_by_192 : xxh3_64 0 (drawn 0xa8b9a05ebeceec28 192) (drawn 0x29eadb8412a6adb3 1025) ≡ 0xbe1bddd573506e65
unfolding word_at xxh3_64 range_of value64_in fold avalanche sum_below low_above_240 last_accumulator accumulator_after scramble_one accumulate_one merge_accumulators pair_fold drawn
of_1025_bytes_keyed_by_192 = refl

pub of_1025_bytes_seeded_and_keyed_by_192 : xxh3_64 0x147b80a09418127d (effective_secret (drawn 0xa3c3a6fbf1775d07 192) (drawn 0xbb5bc8729a6d7bf0 1025)) (drawn 0xbb5bc8729a6d7bf0 1025) ≡ 0x936ae3d163e1f9
unfolding word_at xxh3_64 range_of value64_in fold avalanche sum_below low_above_240 last_accumulator accumulator_after scramble_one accumulate_one merge_accumulators pair_fold effective_secret drawn
of_1025_bytes_seeded_and_keyed_by_192 = refl

pub of_577_bytes_keyed_by_300 : xxh3_64 0 (drawn 0xc2efef8e4fd54af9 300) (drawn 0x9a7f7fd1759b5c01 577) ≡ 0xf16e570a0d3b3484
unfolding word_at xxh3_64 range_of value64_in fold avalanche sum_below low_above_240 last_accumulator accumulator_after accumulate_one merge_accumulators pair_fold drawn
of_577_bytes_keyed_by_300 = refl

pub of_577_bytes_seeded_and_keyed_by_300 : xxh3_64 0x5f86df2126273947 (effective_secret (drawn 0xa550baa621434bd0 300) (drawn 0xb1004b6f31f7e2c 577)) (drawn 0xb1004b6f31f7e2c 577) ≡ 0x3e5a64de85617d35
unfolding word_at xxh3_64 range_of value64_in fold avalanche sum_below low_above_240 last_accumulator accumulator_after accumulate_one merge_accumulators pair_fold effective_secret drawn
of_577_bytes_seeded_and_keyed_by_300 = refl
