-- XXH3 of 128 bits of test cases of oracle/vectors.txt, checked by evaluation. The values are those of xxHash 0.8.1,
-- the reference library. Generated from the table by oracle/make-proofs.
use Rattle.std.specs.Prelude.{◌≡◌}
use Rattle.std.proofs.Common.{refl}
use Rattle.twox_words.specs.Word.{word_at}
use Rattle.twox_core.specs.Value.{range_of, xxh3_128, high_in, low_in, effective_secret}
use Rattle.twox_core.specs.Steps.{avalanche_xxh64, fold, avalanche, mix, sum_below}
use Rattle.twox_core.specs.Short.{combined_bytes, low_1_to_3, mixed_seed, high_0, high_1_to_3, product_4_to_8, high_4_to_8, product_9_to_16, first_9_to_16, second_9_to_16, both_words_9_to_16, high_word_9_to_16, low_word_9_to_16, low_0, low_4_to_8}
use Rattle.twox_core.specs.Long.{low_above_240, last_accumulator, accumulator_after, scramble_one, accumulate_one, merge_accumulators, pair_fold, high_above_240}
use Rattle.twox_core.specs.Middle.{first_17_to_128, accumulator_step, second_17_to_128, merge_high, first_129_to_240, pairs_first, second_129_to_240, pairs_second, merge_low}
use Rattle.twox_core.specs.Secret.{default_secret, derived_secret, derived_pairs}
use Rattle.twox_words.proofs.OutsideVectors.{drawn}

pub of_0_bytes_seeded : xxh3_128 0xbb38108688c648dd (effective_secret (derived_secret 0xbb38108688c648dd) (drawn 0x61fc13c9f3988cc 0)) (drawn 0x61fc13c9f3988cc 0) ≡ 0xabda36eb828626ddefadbae6a75d8793
unfolding word_at range_of avalanche_xxh64 xxh3_128 high_in high_0 low_in low_0 default_secret derived_secret derived_pairs effective_secret drawn
of_0_bytes_seeded = refl

pub of_1_bytes_seeded : xxh3_128 0xc52fb9574f15513 (effective_secret (derived_secret 0xc52fb9574f15513) (drawn 0xe6cb3f61ba519caa 1)) (drawn 0xe6cb3f61ba519caa 1) ≡ 0xc04b7bdd7d1000b0e61fd0920baa19ee
unfolding word_at range_of avalanche_xxh64 combined_bytes low_1_to_3 xxh3_128 high_in high_1_to_3 low_in default_secret derived_secret derived_pairs effective_secret drawn
of_1_bytes_seeded = refl

pub of_2_bytes_seeded : xxh3_128 0x6014620cbad3d973 (effective_secret (derived_secret 0x6014620cbad3d973) (drawn 0x57c690ba0bf4561f 2)) (drawn 0x57c690ba0bf4561f 2) ≡ 0x17756c4d80f28b1486c997a9edce51a0
unfolding word_at range_of avalanche_xxh64 combined_bytes low_1_to_3 xxh3_128 high_in high_1_to_3 low_in default_secret derived_secret derived_pairs effective_secret drawn
of_2_bytes_seeded = refl

pub of_3_bytes_unseeded : xxh3_128 0x0 (effective_secret (derived_secret 0x0) (drawn 0x50f58640e87c4201 3)) (drawn 0x50f58640e87c4201 3) ≡ 0x2af5eb9725fc6679c1ce858bb1cb3dad
unfolding word_at range_of avalanche_xxh64 combined_bytes low_1_to_3 xxh3_128 high_in high_1_to_3 low_in default_secret derived_secret derived_pairs effective_secret drawn
of_3_bytes_unseeded = refl

pub of_3_bytes_seeded : xxh3_128 0x5236f4db195ee7b0 (effective_secret (derived_secret 0x5236f4db195ee7b0) (drawn 0x210e1d81cb761ac5 3)) (drawn 0x210e1d81cb761ac5 3) ≡ 0x5ed4cbd140b080c13b6178ef28726d7
unfolding word_at range_of avalanche_xxh64 combined_bytes low_1_to_3 xxh3_128 high_in high_1_to_3 low_in default_secret derived_secret derived_pairs effective_secret drawn
of_3_bytes_seeded = refl

pub of_4_bytes_seeded : xxh3_128 0xaa09cd3ce5da36f6 (effective_secret (derived_secret 0xaa09cd3ce5da36f6) (drawn 0x39214d441c4872d3 4)) (drawn 0x39214d441c4872d3 4) ≡ 0x80568c7056cb3ec89a5074c4e2e9e995
unfolding word_at range_of mixed_seed avalanche xxh3_128 high_in product_4_to_8 high_4_to_8 low_in low_4_to_8 default_secret derived_secret derived_pairs effective_secret drawn
of_4_bytes_seeded = refl

pub of_5_bytes_seeded : xxh3_128 0x46b1b06e0f009405 (effective_secret (derived_secret 0x46b1b06e0f009405) (drawn 0xad50b3097246b025 5)) (drawn 0xad50b3097246b025 5) ≡ 0x2ab65167a26ccd7082bf775bd431ab04
unfolding word_at range_of mixed_seed avalanche xxh3_128 high_in product_4_to_8 high_4_to_8 low_in low_4_to_8 default_secret derived_secret derived_pairs effective_secret drawn
of_5_bytes_seeded = refl

pub of_8_bytes_unseeded : xxh3_128 0x0 (effective_secret (derived_secret 0x0) (drawn 0xc168007d5c3a2a61 8)) (drawn 0xc168007d5c3a2a61 8) ≡ 0x1d72589b0ef55ed07d3b7a363e32e479
unfolding word_at range_of mixed_seed avalanche xxh3_128 high_in product_4_to_8 high_4_to_8 low_in low_4_to_8 default_secret derived_secret derived_pairs effective_secret drawn
of_8_bytes_unseeded = refl

pub of_8_bytes_seeded : xxh3_128 0x430d7350d36886f9 (effective_secret (derived_secret 0x430d7350d36886f9) (drawn 0x9bebe2421aee675 8)) (drawn 0x9bebe2421aee675 8) ≡ 0x632ce31730ddcba5f70601a00f9e0164
unfolding word_at range_of mixed_seed avalanche xxh3_128 high_in product_4_to_8 high_4_to_8 low_in low_4_to_8 default_secret derived_secret derived_pairs effective_secret drawn
of_8_bytes_seeded = refl

pub of_9_bytes_seeded : xxh3_128 0xb8e97ca311fbb5cd (effective_secret (derived_secret 0xb8e97ca311fbb5cd) (drawn 0x91e1c4d5d2449527 9)) (drawn 0x91e1c4d5d2449527 9) ≡ 0x33428e6ff9b35de7f72b44d512a92619
unfolding word_at range_of avalanche xxh3_128 high_in product_9_to_16 first_9_to_16 second_9_to_16 both_words_9_to_16 high_word_9_to_16 low_word_9_to_16 low_in default_secret derived_secret derived_pairs effective_secret drawn
of_9_bytes_seeded = refl

pub of_15_bytes_seeded : xxh3_128 0x2c28f094de978380 (effective_secret (derived_secret 0x2c28f094de978380) (drawn 0xe6426249bac2050a 15)) (drawn 0xe6426249bac2050a 15) ≡ 0x5d571b9a8dbfa7812972e9b8e11274fe
unfolding word_at range_of avalanche xxh3_128 high_in product_9_to_16 first_9_to_16 second_9_to_16 both_words_9_to_16 high_word_9_to_16 low_word_9_to_16 low_in default_secret derived_secret derived_pairs effective_secret drawn
of_15_bytes_seeded = refl

pub of_16_bytes_unseeded : xxh3_128 0x0 (effective_secret (derived_secret 0x0) (drawn 0xd7f5ae43bb44c87 16)) (drawn 0xd7f5ae43bb44c87 16) ≡ 0x6dfeb87a5f6e5d882c2d7979d90fddf7
unfolding word_at range_of avalanche xxh3_128 high_in product_9_to_16 first_9_to_16 second_9_to_16 both_words_9_to_16 high_word_9_to_16 low_word_9_to_16 low_in default_secret derived_secret derived_pairs effective_secret drawn
of_16_bytes_unseeded = refl

pub of_16_bytes_seeded : xxh3_128 0x9d30b3c6f8edab95 (effective_secret (derived_secret 0x9d30b3c6f8edab95) (drawn 0xd3bcb4a85cfce5de 16)) (drawn 0xd3bcb4a85cfce5de 16) ≡ 0x66823cd761880c2d76bfbac0a26e3619
unfolding word_at range_of avalanche xxh3_128 high_in product_9_to_16 first_9_to_16 second_9_to_16 both_words_9_to_16 high_word_9_to_16 low_word_9_to_16 low_in default_secret derived_secret derived_pairs effective_secret drawn
of_16_bytes_seeded = refl

pub of_17_bytes_seeded : xxh3_128 0xfe5f3ebffb73f103 (effective_secret (derived_secret 0xfe5f3ebffb73f103) (drawn 0xca496b80a94f1569 17)) (drawn 0xca496b80a94f1569 17) ≡ 0x22cdfc27fb3c317cabd3d957965170a2
unfolding word_at range_of fold avalanche mix xxh3_128 high_in first_17_to_128 accumulator_step second_17_to_128 merge_high low_in merge_low default_secret derived_secret derived_pairs effective_secret drawn
of_17_bytes_seeded = refl

pub of_32_bytes_seeded : xxh3_128 0xfeee7f5c53e30710 (effective_secret (derived_secret 0xfeee7f5c53e30710) (drawn 0xab66e69a48f8fca9 32)) (drawn 0xab66e69a48f8fca9 32) ≡ 0x46d73a08d2f068138f514d489d8db9a5
unfolding word_at range_of fold avalanche mix xxh3_128 high_in first_17_to_128 accumulator_step second_17_to_128 merge_high low_in merge_low default_secret derived_secret derived_pairs effective_secret drawn
of_32_bytes_seeded = refl

pub of_33_bytes_seeded : xxh3_128 0xd4811fbd711b57fd (effective_secret (derived_secret 0xd4811fbd711b57fd) (drawn 0x4eaeff972ee33494 33)) (drawn 0x4eaeff972ee33494 33) ≡ 0xcb0476d4bd872ef299f9787242831c91
unfolding word_at range_of fold avalanche mix xxh3_128 high_in first_17_to_128 accumulator_step second_17_to_128 merge_high low_in merge_low default_secret derived_secret derived_pairs effective_secret drawn
of_33_bytes_seeded = refl

pub of_64_bytes_seeded : xxh3_128 0x8d6809973ea43834 (effective_secret (derived_secret 0x8d6809973ea43834) (drawn 0x5737984b8cbbdccd 64)) (drawn 0x5737984b8cbbdccd 64) ≡ 0x6710716c42ccaba05d5c4de859edf6b
unfolding word_at range_of fold avalanche mix xxh3_128 high_in first_17_to_128 accumulator_step second_17_to_128 merge_high low_in merge_low default_secret derived_secret derived_pairs effective_secret drawn
of_64_bytes_seeded = refl

pub of_65_bytes_seeded : xxh3_128 0xd5c89079237e4501 (effective_secret (derived_secret 0xd5c89079237e4501) (drawn 0x2c53e1c7ab7a9fbe 65)) (drawn 0x2c53e1c7ab7a9fbe 65) ≡ 0x12c21a064e78f1f3fae75d9a22a9b638
unfolding word_at range_of fold avalanche mix xxh3_128 high_in first_17_to_128 accumulator_step second_17_to_128 merge_high low_in merge_low default_secret derived_secret derived_pairs effective_secret drawn
of_65_bytes_seeded = refl

pub of_96_bytes_seeded : xxh3_128 0xb5067a638c05865d (effective_secret (derived_secret 0xb5067a638c05865d) (drawn 0x52e88a840c74cf03 96)) (drawn 0x52e88a840c74cf03 96) ≡ 0x24901a981504abd2896e67e9e6689911
unfolding word_at range_of fold avalanche mix xxh3_128 high_in first_17_to_128 accumulator_step second_17_to_128 merge_high low_in merge_low default_secret derived_secret derived_pairs effective_secret drawn
of_96_bytes_seeded = refl

pub of_97_bytes_seeded : xxh3_128 0x2807c1fa135a000f (effective_secret (derived_secret 0x2807c1fa135a000f) (drawn 0x8fab4437c1ee3525 97)) (drawn 0x8fab4437c1ee3525 97) ≡ 0x1d47efaeb1e371af0ec698b528a89334
unfolding word_at range_of fold avalanche mix xxh3_128 high_in first_17_to_128 accumulator_step second_17_to_128 merge_high low_in merge_low default_secret derived_secret derived_pairs effective_secret drawn
of_97_bytes_seeded = refl

pub of_128_bytes_unseeded : xxh3_128 0x0 (effective_secret (derived_secret 0x0) (drawn 0xbd14b735985dc40 128)) (drawn 0xbd14b735985dc40 128) ≡ 0x6c317e3c8a25367ede2f98966a7b55f
unfolding word_at range_of fold avalanche mix xxh3_128 high_in first_17_to_128 accumulator_step second_17_to_128 merge_high low_in merge_low default_secret derived_secret derived_pairs effective_secret drawn
of_128_bytes_unseeded = refl

pub of_128_bytes_seeded : xxh3_128 0x27daef00e98d4a77 (effective_secret (derived_secret 0x27daef00e98d4a77) (drawn 0x9efc9590ea39c7f8 128)) (drawn 0x9efc9590ea39c7f8 128) ≡ 0x8ac82cc8692bfe5cf71b7a579d4df3f6
unfolding word_at range_of fold avalanche mix xxh3_128 high_in first_17_to_128 accumulator_step second_17_to_128 merge_high low_in merge_low default_secret derived_secret derived_pairs effective_secret drawn
of_128_bytes_seeded = refl

pub of_129_bytes_seeded : xxh3_128 0xa4fc67f739311e2 (effective_secret (derived_secret 0xa4fc67f739311e2) (drawn 0xfc64d3f45290db9 129)) (drawn 0xfc64d3f45290db9 129) ≡ 0x777246e50b74157202ffaf24034e8b0c
unfolding word_at range_of fold avalanche mix xxh3_128 high_in accumulator_step merge_high first_129_to_240 pairs_first second_129_to_240 pairs_second low_in merge_low default_secret derived_secret derived_pairs effective_secret drawn
of_129_bytes_seeded = refl

pub of_144_bytes_seeded : xxh3_128 0x825125176716d7b (effective_secret (derived_secret 0x825125176716d7b) (drawn 0x8e588fec758b1909 144)) (drawn 0x8e588fec758b1909 144) ≡ 0xb89226b70dee90fba52eefb6ac56c414
unfolding word_at range_of fold avalanche mix xxh3_128 high_in accumulator_step merge_high first_129_to_240 pairs_first second_129_to_240 pairs_second low_in merge_low default_secret derived_secret derived_pairs effective_secret drawn
of_144_bytes_seeded = refl

pub of_159_bytes_seeded : xxh3_128 0x86bbcf7d7a6d761c (effective_secret (derived_secret 0x86bbcf7d7a6d761c) (drawn 0x78b1c9302bf91de7 159)) (drawn 0x78b1c9302bf91de7 159) ≡ 0xfe9ac695f6e7bf5507826caa6487d184
unfolding word_at range_of fold avalanche mix xxh3_128 high_in accumulator_step merge_high first_129_to_240 pairs_first second_129_to_240 pairs_second low_in merge_low default_secret derived_secret derived_pairs effective_secret drawn
of_159_bytes_seeded = refl

pub of_160_bytes_seeded : xxh3_128 0x9dd68e09eba7a056 (effective_secret (derived_secret 0x9dd68e09eba7a056) (drawn 0xf71ed57360f898a7 160)) (drawn 0xf71ed57360f898a7 160) ≡ 0x7f0fce8e0f08a9f0e8d23370a26154f7
unfolding word_at range_of fold avalanche mix xxh3_128 high_in accumulator_step merge_high first_129_to_240 pairs_first second_129_to_240 pairs_second low_in merge_low default_secret derived_secret derived_pairs effective_secret drawn
of_160_bytes_seeded = refl

pub of_191_bytes_seeded : xxh3_128 0xed7473208b3266ec (effective_secret (derived_secret 0xed7473208b3266ec) (drawn 0xd60e359d8311d444 191)) (drawn 0xd60e359d8311d444 191) ≡ 0xc5552bbc35c681b30f8631ee62f3d443
unfolding word_at range_of fold avalanche mix xxh3_128 high_in accumulator_step merge_high first_129_to_240 pairs_first second_129_to_240 pairs_second low_in merge_low default_secret derived_secret derived_pairs effective_secret drawn
of_191_bytes_seeded = refl

pub of_192_bytes_seeded : xxh3_128 0x4adee18b5eb88df9 (effective_secret (derived_secret 0x4adee18b5eb88df9) (drawn 0xf5ab4394d9de1513 192)) (drawn 0xf5ab4394d9de1513 192) ≡ 0x9e8478e6169f8f485095254878de5874
unfolding word_at range_of fold avalanche mix xxh3_128 high_in accumulator_step merge_high first_129_to_240 pairs_first second_129_to_240 pairs_second low_in merge_low default_secret derived_secret derived_pairs effective_secret drawn
of_192_bytes_seeded = refl

pub of_224_bytes_seeded : xxh3_128 0x4d2684dd83616c38 (effective_secret (derived_secret 0x4d2684dd83616c38) (drawn 0x621a549ba12c339f 224)) (drawn 0x621a549ba12c339f 224) ≡ 0x2e2e5b17a2aa88bdabcec9ae8935ec40
unfolding word_at range_of fold avalanche mix xxh3_128 high_in accumulator_step merge_high first_129_to_240 pairs_first second_129_to_240 pairs_second low_in merge_low default_secret derived_secret derived_pairs effective_secret drawn
of_224_bytes_seeded = refl

pub of_239_bytes_seeded : xxh3_128 0xe4fb9b93d83c11cb (effective_secret (derived_secret 0xe4fb9b93d83c11cb) (drawn 0x6272fbe45e1f56e6 239)) (drawn 0x6272fbe45e1f56e6 239) ≡ 0x72969b6847fb16608ad920961f83f615
unfolding word_at range_of fold avalanche mix xxh3_128 high_in accumulator_step merge_high first_129_to_240 pairs_first second_129_to_240 pairs_second low_in merge_low default_secret derived_secret derived_pairs effective_secret drawn
of_239_bytes_seeded = refl

pub of_240_bytes_unseeded : xxh3_128 0x0 (effective_secret (derived_secret 0x0) (drawn 0x700c163784e17b28 240)) (drawn 0x700c163784e17b28 240) ≡ 0xf415e4918cb543171d407195d1d5b9ae
unfolding word_at range_of fold avalanche mix xxh3_128 high_in accumulator_step merge_high first_129_to_240 pairs_first second_129_to_240 pairs_second low_in merge_low default_secret derived_secret derived_pairs effective_secret drawn
of_240_bytes_unseeded = refl

pub of_240_bytes_seeded : xxh3_128 0xbd4ea1439b8c9ab9 (effective_secret (derived_secret 0xbd4ea1439b8c9ab9) (drawn 0x15e28ac01b6f73de 240)) (drawn 0x15e28ac01b6f73de 240) ≡ 0x958f443eb9f7e6a1d254c4eaa5aaf83f
unfolding word_at range_of fold avalanche mix xxh3_128 high_in accumulator_step merge_high first_129_to_240 pairs_first second_129_to_240 pairs_second low_in merge_low default_secret derived_secret derived_pairs effective_secret drawn
of_240_bytes_seeded = refl

pub of_241_bytes_seeded : xxh3_128 0xda74fda9c7865fa2 (effective_secret (derived_secret 0xda74fda9c7865fa2) (drawn 0x3d37f4f553285ad7 241)) (drawn 0x3d37f4f553285ad7 241) ≡ 0x110eae0f1af597c762de3460ce56cc3f
unfolding word_at range_of fold avalanche sum_below low_above_240 last_accumulator accumulator_after accumulate_one merge_accumulators pair_fold xxh3_128 high_in high_above_240 low_in default_secret derived_secret derived_pairs effective_secret drawn
of_241_bytes_seeded = refl

pub of_3_bytes_seeded_2 : xxh3_128 0x8000000000000000 (effective_secret (derived_secret 0x8000000000000000) (drawn 0x7004503ff24d78d3 3)) (drawn 0x7004503ff24d78d3 3) ≡ 0x5f30d75d13fe90e0f967c7ab28825d7b
unfolding word_at range_of avalanche_xxh64 combined_bytes low_1_to_3 xxh3_128 high_in high_1_to_3 low_in default_secret derived_secret derived_pairs effective_secret drawn
of_3_bytes_seeded_2 = refl

pub of_3_bytes_seeded_3 : xxh3_128 0xffffffffffffffff (effective_secret (derived_secret 0xffffffffffffffff) (drawn 0xa9a2caf1dc29b6e2 3)) (drawn 0xa9a2caf1dc29b6e2 3) ≡ 0x9e9174c5ac33951733695b0ea06e36e6
unfolding word_at range_of avalanche_xxh64 combined_bytes low_1_to_3 xxh3_128 high_in high_1_to_3 low_in default_secret derived_secret derived_pairs effective_secret drawn
of_3_bytes_seeded_3 = refl

pub of_8_bytes_seeded_2 : xxh3_128 0x8000000000000000 (effective_secret (derived_secret 0x8000000000000000) (drawn 0xbde4c7ce96970404 8)) (drawn 0xbde4c7ce96970404 8) ≡ 0xf08a617b7bc5236a01b8edafa2e85235
unfolding word_at range_of mixed_seed avalanche xxh3_128 high_in product_4_to_8 high_4_to_8 low_in low_4_to_8 default_secret derived_secret derived_pairs effective_secret drawn
of_8_bytes_seeded_2 = refl

pub of_8_bytes_seeded_3 : xxh3_128 0xffffffffffffffff (effective_secret (derived_secret 0xffffffffffffffff) (drawn 0x7b3bb2c118e3ab0c 8)) (drawn 0x7b3bb2c118e3ab0c 8) ≡ 0x1aa96b34097ff38f451985dd4f830b0b
unfolding word_at range_of mixed_seed avalanche xxh3_128 high_in product_4_to_8 high_4_to_8 low_in low_4_to_8 default_secret derived_secret derived_pairs effective_secret drawn
of_8_bytes_seeded_3 = refl

pub of_16_bytes_seeded_2 : xxh3_128 0x8000000000000000 (effective_secret (derived_secret 0x8000000000000000) (drawn 0x10f7173bf80b9f04 16)) (drawn 0x10f7173bf80b9f04 16) ≡ 0xb79d68c8c67c6d64d8c064ad917f1678
unfolding word_at range_of avalanche xxh3_128 high_in product_9_to_16 first_9_to_16 second_9_to_16 both_words_9_to_16 high_word_9_to_16 low_word_9_to_16 low_in default_secret derived_secret derived_pairs effective_secret drawn
of_16_bytes_seeded_2 = refl

pub of_16_bytes_seeded_3 : xxh3_128 0xffffffffffffffff (effective_secret (derived_secret 0xffffffffffffffff) (drawn 0x6221b5136c88c93a 16)) (drawn 0x6221b5136c88c93a 16) ≡ 0x7837f1900098c1fe35bc431103aae5db
unfolding word_at range_of avalanche xxh3_128 high_in product_9_to_16 first_9_to_16 second_9_to_16 both_words_9_to_16 high_word_9_to_16 low_word_9_to_16 low_in default_secret derived_secret derived_pairs effective_secret drawn
of_16_bytes_seeded_3 = refl

pub of_128_bytes_seeded_2 : xxh3_128 0x8000000000000000 (effective_secret (derived_secret 0x8000000000000000) (drawn 0x46a84e9fce4d8b5c 128)) (drawn 0x46a84e9fce4d8b5c 128) ≡ 0xe18498de20c0121647721c5057fa5aa0
unfolding word_at range_of fold avalanche mix xxh3_128 high_in first_17_to_128 accumulator_step second_17_to_128 merge_high low_in merge_low default_secret derived_secret derived_pairs effective_secret drawn
of_128_bytes_seeded_2 = refl

pub of_128_bytes_seeded_3 : xxh3_128 0xffffffffffffffff (effective_secret (derived_secret 0xffffffffffffffff) (drawn 0xcf94e7885d4c474a 128)) (drawn 0xcf94e7885d4c474a 128) ≡ 0xa5f64b6aae96a539e8aea4cf9f9e2302
unfolding word_at range_of fold avalanche mix xxh3_128 high_in first_17_to_128 accumulator_step second_17_to_128 merge_high low_in merge_low default_secret derived_secret derived_pairs effective_secret drawn
of_128_bytes_seeded_3 = refl

pub of_240_bytes_seeded_2 : xxh3_128 0x8000000000000000 (effective_secret (derived_secret 0x8000000000000000) (drawn 0x1fcb7a0385cdf4ad 240)) (drawn 0x1fcb7a0385cdf4ad 240) ≡ 0x4de7a945066efb084e8686e5dc7c5d81
unfolding word_at range_of fold avalanche mix xxh3_128 high_in accumulator_step merge_high first_129_to_240 pairs_first second_129_to_240 pairs_second low_in merge_low default_secret derived_secret derived_pairs effective_secret drawn
of_240_bytes_seeded_2 = refl

pub of_240_bytes_seeded_3 : xxh3_128 0xffffffffffffffff (effective_secret (derived_secret 0xffffffffffffffff) (drawn 0x493482f28726e404 240)) (drawn 0x493482f28726e404 240) ≡ 0xaa47d0ace156e3a7cd1f92c1f790b67b
unfolding word_at range_of fold avalanche mix xxh3_128 high_in accumulator_step merge_high first_129_to_240 pairs_first second_129_to_240 pairs_second low_in merge_low default_secret derived_secret derived_pairs effective_secret drawn
of_240_bytes_seeded_3 = refl

pub of_320_bytes_seeded : xxh3_128 0x88f39f80a1e6f6a1 (effective_secret (derived_secret 0x88f39f80a1e6f6a1) (drawn 0xf103ab53f183d182 320)) (drawn 0xf103ab53f183d182 320) ≡ 0x877bf64180557a78fbcf450fae2eb50f
unfolding word_at range_of fold avalanche sum_below low_above_240 last_accumulator accumulator_after accumulate_one merge_accumulators pair_fold xxh3_128 high_in high_above_240 low_in default_secret derived_secret derived_pairs effective_secret drawn
of_320_bytes_seeded = refl

pub of_512_bytes_seeded : xxh3_128 0xc31e04a5c197865c (effective_secret (derived_secret 0xc31e04a5c197865c) (drawn 0x5ebd0d45c6a14299 512)) (drawn 0x5ebd0d45c6a14299 512) ≡ 0x921f2ead10226f59f5e908fb76b6af14
unfolding word_at range_of fold avalanche sum_below low_above_240 last_accumulator accumulator_after accumulate_one merge_accumulators pair_fold xxh3_128 high_in high_above_240 low_in default_secret derived_secret derived_pairs effective_secret drawn
of_512_bytes_seeded = refl

pub of_1024_bytes_seeded : xxh3_128 0xd69a98b318a177a (effective_secret (derived_secret 0xd69a98b318a177a) (drawn 0xe8665d32535ffbcd 1024)) (drawn 0xe8665d32535ffbcd 1024) ≡ 0x4c83cb3c3c7e0344417f4ffd34456754
unfolding word_at range_of fold avalanche sum_below low_above_240 last_accumulator accumulator_after accumulate_one merge_accumulators pair_fold xxh3_128 high_in high_above_240 low_in default_secret derived_secret derived_pairs effective_secret drawn
of_1024_bytes_seeded = refl

pub of_1025_bytes_unseeded : xxh3_128 0x0 (effective_secret (derived_secret 0x0) (drawn 0xc46271223c2b9dd4 1025)) (drawn 0xc46271223c2b9dd4 1025) ≡ 0x7489e62c8736ace522c19ca57a9bfebe
unfolding word_at range_of fold avalanche sum_below low_above_240 last_accumulator accumulator_after scramble_one accumulate_one merge_accumulators pair_fold xxh3_128 high_in high_above_240 low_in default_secret derived_secret derived_pairs effective_secret drawn
of_1025_bytes_unseeded = refl

pub of_1025_bytes_seeded : xxh3_128 0x261c488a1aa2013c (effective_secret (derived_secret 0x261c488a1aa2013c) (drawn 0x1fde50adf27168ad 1025)) (drawn 0x1fde50adf27168ad 1025) ≡ 0x5377a27cae23cc83cdc44c9ca40d5f2d
unfolding word_at range_of fold avalanche sum_below low_above_240 last_accumulator accumulator_after scramble_one accumulate_one merge_accumulators pair_fold xxh3_128 high_in high_above_240 low_in default_secret derived_secret derived_pairs effective_secret drawn
of_1025_bytes_seeded = refl

pub of_1088_bytes_seeded : xxh3_128 0x72e7e8bcb9c4d5dc (effective_secret (derived_secret 0x72e7e8bcb9c4d5dc) (drawn 0xc58171de4749de60 1088)) (drawn 0xc58171de4749de60 1088) ≡ 0xbe12ed3b341eead13b38c0b7dc07213e
unfolding word_at range_of fold avalanche sum_below low_above_240 last_accumulator accumulator_after scramble_one accumulate_one merge_accumulators pair_fold xxh3_128 high_in high_above_240 low_in default_secret derived_secret derived_pairs effective_secret drawn
of_1088_bytes_seeded = refl

pub of_1089_bytes_seeded : xxh3_128 0xa31f9dbcadc0973f (effective_secret (derived_secret 0xa31f9dbcadc0973f) (drawn 0x98487fdc173f1b49 1089)) (drawn 0x98487fdc173f1b49 1089) ≡ 0x8b18dd27dad032ee5c5a61b42f7c26d
unfolding word_at range_of fold avalanche sum_below low_above_240 last_accumulator accumulator_after scramble_one accumulate_one merge_accumulators pair_fold xxh3_128 high_in high_above_240 low_in default_secret derived_secret derived_pairs effective_secret drawn
of_1089_bytes_seeded = refl

pub of_0_bytes_keyed_by_136 : xxh3_128 0 (drawn 0xed79e2fee5d70665 136) (drawn 0x573ed6a98d1b8ffa 0) ≡ 0x3d41411863bff92e8c5ec463aa4a6992
unfolding word_at range_of avalanche_xxh64 xxh3_128 high_in high_0 low_in low_0 drawn
of_0_bytes_keyed_by_136 = refl

pub of_3_bytes_keyed_by_136 : xxh3_128 0 (drawn 0xbe57dfe9bb57da6 136) (drawn 0xa2668be807929e1a 3) ≡ 0x9f6def15e399e90ae87b9a038200367b
unfolding word_at range_of avalanche_xxh64 combined_bytes low_1_to_3 xxh3_128 high_in high_1_to_3 low_in drawn
of_3_bytes_keyed_by_136 = refl

pub of_8_bytes_keyed_by_136 : xxh3_128 0 (drawn 0x9fb31c061d311b87 136) (drawn 0x9824bbca42aab5ec 8) ≡ 0x294945860b3909a122b4147d32b81ee3
unfolding word_at range_of mixed_seed avalanche xxh3_128 high_in product_4_to_8 high_4_to_8 low_in low_4_to_8 drawn
of_8_bytes_keyed_by_136 = refl

pub of_16_bytes_keyed_by_136 : xxh3_128 0 (drawn 0x5fd651cc44ba3a9c 136) (drawn 0x285093162b969f22 16) ≡ 0xb54c0583a585deed05a90f1edeb93a24
unfolding word_at range_of avalanche xxh3_128 high_in product_9_to_16 first_9_to_16 second_9_to_16 both_words_9_to_16 high_word_9_to_16 low_word_9_to_16 low_in drawn
of_16_bytes_keyed_by_136 = refl

pub of_128_bytes_keyed_by_136 : xxh3_128 0 (drawn 0xa7418f3ad36a891e 136) (drawn 0xb3187062adf6a29b 128) ≡ 0xcc89da4c2cda592fc46b1541e6abfe50
unfolding word_at range_of fold avalanche mix xxh3_128 high_in first_17_to_128 accumulator_step second_17_to_128 merge_high low_in merge_low drawn
of_128_bytes_keyed_by_136 = refl

pub of_240_bytes_keyed_by_136 : xxh3_128 0 (drawn 0xa57c3aae9f4fe754 136) (drawn 0x49fefb6a2bba045c 240) ≡ 0x3cbb2ae2495c3bcb5584e50f014c68d6
unfolding word_at range_of fold avalanche mix xxh3_128 high_in accumulator_step merge_high first_129_to_240 pairs_first second_129_to_240 pairs_second low_in merge_low drawn
of_240_bytes_keyed_by_136 = refl

pub of_240_bytes_seeded_and_keyed_by_136 : xxh3_128 0xc51e37a535c8564f (effective_secret (drawn 0x61644330b80a741 136) (drawn 0x57466051b6562d9a 240)) (drawn 0x57466051b6562d9a 240) ≡ 0xd1083f99f00f39b9d627bd2f17323311
unfolding word_at range_of fold avalanche mix xxh3_128 high_in accumulator_step merge_high first_129_to_240 pairs_first second_129_to_240 pairs_second low_in merge_low default_secret effective_secret drawn
of_240_bytes_seeded_and_keyed_by_136 = refl

pub of_577_bytes_keyed_by_136 : xxh3_128 0 (drawn 0x723de6c7f6ca3c0f 136) (drawn 0xc0da2998052f808e 577) ≡ 0x4ee31fc1cb5f411e6f1518714178ea96
unfolding word_at range_of fold avalanche sum_below low_above_240 last_accumulator accumulator_after scramble_one accumulate_one merge_accumulators pair_fold xxh3_128 high_in high_above_240 low_in drawn
of_577_bytes_keyed_by_136 = refl

pub of_577_bytes_seeded_and_keyed_by_136 : xxh3_128 0x904fd7b69a0ddb71 (effective_secret (drawn 0xe8c32a2d4a15c8e0 136) (drawn 0x6b25ca7c1b474bb7 577)) (drawn 0x6b25ca7c1b474bb7 577) ≡ 0x2614e7db5edd44dbb13e3c04e87ffd2
unfolding word_at range_of fold avalanche sum_below low_above_240 last_accumulator accumulator_after scramble_one accumulate_one merge_accumulators pair_fold xxh3_128 high_in high_above_240 low_in effective_secret drawn
of_577_bytes_seeded_and_keyed_by_136 = refl

pub of_640_bytes_keyed_by_136 : xxh3_128 0 (drawn 0xf1e85bbe6aa933b9 136) (drawn 0x576133da39dfbcc0 640) ≡ 0xcf000353a4770feee121c8408c0262c9
unfolding word_at range_of fold avalanche sum_below low_above_240 last_accumulator accumulator_after scramble_one accumulate_one merge_accumulators pair_fold xxh3_128 high_in high_above_240 low_in drawn
of_640_bytes_keyed_by_136 = refl

pub of_640_bytes_seeded_and_keyed_by_136 : xxh3_128 0x20c13bc07aa459ff (effective_secret (drawn 0x2aa2c37f836b7f41 136) (drawn 0xa8e79d49c57baf9e 640)) (drawn 0xa8e79d49c57baf9e 640) ≡ 0xe175195912e0b2b66c2a3a5255ab4a33
unfolding word_at range_of fold avalanche sum_below low_above_240 last_accumulator accumulator_after scramble_one accumulate_one merge_accumulators pair_fold xxh3_128 high_in high_above_240 low_in effective_secret drawn
of_640_bytes_seeded_and_keyed_by_136 = refl

pub of_641_bytes_keyed_by_137 : xxh3_128 0 (drawn 0x65b643bf8d38136a 137) (drawn 0x8ce60826cf1765e1 641) ≡ 0x4b5cb7ff7e61e24aacd81b6bb7fe84f0
unfolding word_at range_of fold avalanche sum_below low_above_240 last_accumulator accumulator_after scramble_one accumulate_one merge_accumulators pair_fold xxh3_128 high_in high_above_240 low_in drawn
of_641_bytes_keyed_by_137 = refl

pub of_641_bytes_seeded_and_keyed_by_137 : xxh3_128 0x931f9c98de2e1a5 (effective_secret (drawn 0x96a2b906caf1ad3f 137) (drawn 0xce634deb4dd3f9cc 641)) (drawn 0xce634deb4dd3f9cc 641) ≡ 0xdb026052942205fef45bf4660ea0f9b3
unfolding word_at range_of fold avalanche sum_below low_above_240 last_accumulator accumulator_after scramble_one accumulate_one merge_accumulators pair_fold xxh3_128 high_in high_above_240 low_in effective_secret drawn
of_641_bytes_seeded_and_keyed_by_137 = refl

pub of_577_bytes_keyed_by_143 : xxh3_128 0 (drawn 0x32e92c46dc25460b 143) (drawn 0xbc0cb7861a7ece57 577) ≡ 0xa55bce5edd1cf2f92a177c791b12a935
unfolding word_at range_of fold avalanche sum_below low_above_240 last_accumulator accumulator_after scramble_one accumulate_one merge_accumulators pair_fold xxh3_128 high_in high_above_240 low_in drawn
of_577_bytes_keyed_by_143 = refl

pub of_577_bytes_seeded_and_keyed_by_143 : xxh3_128 0x1f90b3ba86be51ab (effective_secret (drawn 0x8f530e562d5f985b 143) (drawn 0x7f14d4362c83ee47 577)) (drawn 0x7f14d4362c83ee47 577) ≡ 0x454adbb29e00cb08aeebe2485bb2dc23
unfolding word_at range_of fold avalanche sum_below low_above_240 last_accumulator accumulator_after scramble_one accumulate_one merge_accumulators pair_fold xxh3_128 high_in high_above_240 low_in effective_secret drawn
of_577_bytes_seeded_and_keyed_by_143 = refl

pub of_640_bytes_keyed_by_143 : xxh3_128 0 (drawn 0xbe8198411a909d18 143) (drawn 0xafb5196f8df072bd 640) ≡ 0x9e0170b716d226c8b4847a763639edf0
unfolding word_at range_of fold avalanche sum_below low_above_240 last_accumulator accumulator_after scramble_one accumulate_one merge_accumulators pair_fold xxh3_128 high_in high_above_240 low_in drawn
of_640_bytes_keyed_by_143 = refl

pub of_640_bytes_seeded_and_keyed_by_143 : xxh3_128 0x5d0a8189645de724 (effective_secret (drawn 0xe938f4c30245f956 143) (drawn 0xdc58f626db65fa22 640)) (drawn 0xdc58f626db65fa22 640) ≡ 0x5b918f28d6c68920f1eca33a1a79f964
unfolding word_at range_of fold avalanche sum_below low_above_240 last_accumulator accumulator_after scramble_one accumulate_one merge_accumulators pair_fold xxh3_128 high_in high_above_240 low_in effective_secret drawn
of_640_bytes_seeded_and_keyed_by_143 = refl

pub of_641_bytes_keyed_by_143 : xxh3_128 0 (drawn 0x2c2ee97d7c0b9741 143) (drawn 0xb9906048f6dc15ea 641) ≡ 0xf82356aff171c63f22d755610a0c97d9
unfolding word_at range_of fold avalanche sum_below low_above_240 last_accumulator accumulator_after scramble_one accumulate_one merge_accumulators pair_fold xxh3_128 high_in high_above_240 low_in drawn
of_641_bytes_keyed_by_143 = refl

pub of_641_bytes_seeded_and_keyed_by_143 : xxh3_128 0x24985cc17396ed79 (effective_secret (drawn 0xbf743c661c8adb0f 143) (drawn 0x7800a98d16a0702f 641)) (drawn 0x7800a98d16a0702f 641) ≡ 0x3707e2378c4c52d81d120176019e1282
unfolding word_at range_of fold avalanche sum_below low_above_240 last_accumulator accumulator_after scramble_one accumulate_one merge_accumulators pair_fold xxh3_128 high_in high_above_240 low_in effective_secret drawn
of_641_bytes_seeded_and_keyed_by_143 = refl

pub of_640_bytes_keyed_by_144 : xxh3_128 0 (drawn 0x4580cdb4f1bceba8 144) (drawn 0xe0f529205849626c 640) ≡ 0x24c9b9a36ef0af96d3dcc2fe19bf9656
unfolding word_at range_of fold avalanche sum_below low_above_240 last_accumulator accumulator_after accumulate_one merge_accumulators pair_fold xxh3_128 high_in high_above_240 low_in drawn
of_640_bytes_keyed_by_144 = refl

pub of_640_bytes_seeded_and_keyed_by_144 : xxh3_128 0x5c9260b6557ac039 (effective_secret (drawn 0x970afa3d51d45b4f 144) (drawn 0x22c6eb049aee787f 640)) (drawn 0x22c6eb049aee787f 640) ≡ 0x5c67d97df2ff7e9f7c95d24bd1b485ad
unfolding word_at range_of fold avalanche sum_below low_above_240 last_accumulator accumulator_after accumulate_one merge_accumulators pair_fold xxh3_128 high_in high_above_240 low_in effective_secret drawn
of_640_bytes_seeded_and_keyed_by_144 = refl

pub of_641_bytes_keyed_by_144 : xxh3_128 0 (drawn 0xeb05b29357a1ef8e 144) (drawn 0x563fdd8308951bf9 641) ≡ 0x3ac5138072d93559a50dfd82fec83095
unfolding word_at range_of fold avalanche sum_below low_above_240 last_accumulator accumulator_after scramble_one accumulate_one merge_accumulators pair_fold xxh3_128 high_in high_above_240 low_in drawn
of_641_bytes_keyed_by_144 = refl

pub of_641_bytes_seeded_and_keyed_by_144 : xxh3_128 0xe2e41ad71ca15f23 (effective_secret (drawn 0x40a0e67b3315168e 144) (drawn 0xb2423edebb268fd1 641)) (drawn 0xb2423edebb268fd1 641) ≡ 0x55ff4dcefc07aef7a74aa0f88b4a9d25
unfolding word_at range_of fold avalanche sum_below low_above_240 last_accumulator accumulator_after scramble_one accumulate_one merge_accumulators pair_fold xxh3_128 high_in high_above_240 low_in effective_secret drawn
of_641_bytes_seeded_and_keyed_by_144 = refl

pub of_1025_bytes_keyed_by_192 : xxh3_128 0 (drawn 0xdea8084624379c24 192) (drawn 0xa2da456d09a3e58 1025) ≡ 0x7a20ddcc24a58623a0296290de978e1
unfolding word_at range_of fold avalanche sum_below low_above_240 last_accumulator accumulator_after scramble_one accumulate_one merge_accumulators pair_fold xxh3_128 high_in high_above_240 low_in drawn
of_1025_bytes_keyed_by_192 = refl

pub of_1025_bytes_seeded_and_keyed_by_192 : xxh3_128 0xa4686e1050029583 (effective_secret (drawn 0x4e5ed9750ced35e8 192) (drawn 0xc4ad2161a2247a1c 1025)) (drawn 0xc4ad2161a2247a1c 1025) ≡ 0x65ec3633b9806f41f4b3567b94a21bd2
unfolding word_at range_of fold avalanche sum_below low_above_240 last_accumulator accumulator_after scramble_one accumulate_one merge_accumulators pair_fold xxh3_128 high_in high_above_240 low_in effective_secret drawn
of_1025_bytes_seeded_and_keyed_by_192 = refl

pub of_577_bytes_keyed_by_300 : xxh3_128 0 (drawn 0xf8227a71437d32a9 300) (drawn 0xecfbcd6ab39d3cd0 577) ≡ 0x35800d6d201313e4f1d905bb9fcb8061
unfolding word_at range_of fold avalanche sum_below low_above_240 last_accumulator accumulator_after accumulate_one merge_accumulators pair_fold xxh3_128 high_in high_above_240 low_in drawn
of_577_bytes_keyed_by_300 = refl

pub of_577_bytes_seeded_and_keyed_by_300 : xxh3_128 0x1ea263fb6c2bd263 (effective_secret (drawn 0xc6d1ee21bd929509 300) (drawn 0xa3773b7e5dfa428c 577)) (drawn 0xa3773b7e5dfa428c 577) ≡ 0xfb47a8b1a5badd9e105f852539bc6fc1
unfolding word_at range_of fold avalanche sum_below low_above_240 last_accumulator accumulator_after accumulate_one merge_accumulators pair_fold xxh3_128 high_in high_above_240 low_in effective_secret drawn
of_577_bytes_seeded_and_keyed_by_300 = refl
