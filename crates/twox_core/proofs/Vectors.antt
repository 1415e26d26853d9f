-- Test vectors, checked by computing: the values that the tests of the Rust crate `twox-hash` expect.
use Rattle.std.specs.Prelude.{◌≡◌, ℕ, zero, suc, ◌+◌, ◌%◌, List, [], ◌∷◌, map}
use Rattle.std.proofs.Common.{refl}
use Rattle.twox_words.specs.Word.{word_at}
use Rattle.twox_core.specs.Steps.{avalanche, avalanche_xxh64, fold, mix, sum_below}
use Rattle.twox_core.specs.Secret.{default_secret, derived_pairs, derived_secret}
use Rattle.twox_core.specs.Short.{value64_0, low_0, high_0, combined_bytes, low_1_to_3, high_1_to_3, mixed_seed, strong, value64_4_to_8, product_4_to_8, low_4_to_8, high_4_to_8, value64_9_to_16, first_9_to_16, second_9_to_16, high_word_9_to_16, low_word_9_to_16, both_words_9_to_16, product_9_to_16}
use Rattle.twox_core.specs.Middle.{both_ends, value64_17_to_128, early, later, value64_129_to_240, accumulator_step, first_17_to_128, second_17_to_128, pairs_first, pairs_second, first_129_to_240, second_129_to_240, merge_low, merge_high}
use Rattle.twox_core.specs.Long.{accumulate_one, scramble_one, accumulator_after, last_accumulator, pair_fold, merge_accumulators, low_above_240, high_above_240}
use Rattle.twox_core.specs.Value.{range_of, value64_in, low_in, high_in, xxh3_64, xxh3_128, effective_secret}

-- The n bytes x mod 251 for x from i on.
unfoldable pub gen_from : ℕ → ℕ → List ℕ
gen_from i zero = []
gen_from i (suc n) = i % 251 ∷ gen_from (i + 1) n

abbrev pub gen : ℕ → List ℕ
gen n = gen_from 0 n

-- The values of inputs of these lengths under seed 0 and the default secret.
abbrev pub values64 : List ℕ → List ℕ
values64 ns = map (λ n. xxh3_64 0 default_secret (gen n)) ns

abbrev pub values128 : List ℕ → List ℕ
values128 ns = map (λ n. xxh3_128 0 default_secret (gen n)) ns

-- The values of inputs of these lengths under a seed, whose derived secret applies above 240 bytes.
abbrev pub seeded64 : ℕ → List ℕ → List ℕ
seeded64 seed ns = map (λ n. xxh3_64 seed (effective_secret (derived_secret seed) (gen n)) (gen n)) ns

pub values64_up_to_16 : values64 (0 ∷ 1 ∷ 2 ∷ 3 ∷ 4 ∷ 5 ∷ 8 ∷ 9 ∷ 12 ∷ 16 ∷ []) ≡
    0x2d06800538d394c2 ∷
    0xc44bdff4074eecdb ∷
    0xd6645fc3051a9457 ∷
    0x5f4299fc161c9cbb ∷
    0x60dab036a58211f2 ∷
    0xb075753a84ca0fbe ∷
    0x3a1c2d7c85af88f8 ∷
    0xe9612598145bb9dc ∷
    0x5ace6a511c10894b ∷
    0x8355e3a6f61770db ∷ []
unfolding word_at gen_from avalanche avalanche_xxh64 fold mix sum_below value64_0 low_0 high_0 combined_bytes low_1_to_3 high_1_to_3 mixed_seed strong value64_4_to_8 product_4_to_8 low_4_to_8 high_4_to_8 value64_9_to_16 first_9_to_16 second_9_to_16 high_word_9_to_16 low_word_9_to_16 both_words_9_to_16 product_9_to_16 both_ends value64_17_to_128 early later value64_129_to_240 accumulator_step first_17_to_128 second_17_to_128 pairs_first pairs_second first_129_to_240 second_129_to_240 merge_low merge_high accumulate_one scramble_one accumulator_after last_accumulator pair_fold merge_accumulators low_above_240 high_above_240 range_of value64_in low_in high_in xxh3_64 xxh3_128 effective_secret default_secret derived_pairs derived_secret
values64_up_to_16 = refl

pub values128_up_to_16 : values128 (0 ∷ 1 ∷ 2 ∷ 3 ∷ 4 ∷ 5 ∷ 8 ∷ 9 ∷ 12 ∷ 16 ∷ []) ≡
    0x99aa06d3014798d86001c324468d497f ∷
    0xa6cd5e9392000f6ac44bdff4074eecdb ∷
    0x6a4a5274c1b0d3add6645fc3051a9457 ∷
    0xe3b55f57945a17cf5f4299fc161c9cbb ∷
    0xeb70bf5fc779e9e6a6111d53e80a3db5 ∷
    0x9434532106a7c141c920d2347a85929b ∷
    0xe1e4432a62217fe4cfd50c61c8bb98c1 ∷
    0x16c769d83e4aebce907931979dca3746 ∷
    0x38f92247a7f73cc57780eb31198f13ca ∷
    0x72950631827607e2842812cc870dcae2 ∷ []
unfolding word_at gen_from avalanche avalanche_xxh64 fold mix sum_below value64_0 low_0 high_0 combined_bytes low_1_to_3 high_1_to_3 mixed_seed strong value64_4_to_8 product_4_to_8 low_4_to_8 high_4_to_8 value64_9_to_16 first_9_to_16 second_9_to_16 high_word_9_to_16 low_word_9_to_16 both_words_9_to_16 product_9_to_16 both_ends value64_17_to_128 early later value64_129_to_240 accumulator_step first_17_to_128 second_17_to_128 pairs_first pairs_second first_129_to_240 second_129_to_240 merge_low merge_high accumulate_one scramble_one accumulator_after last_accumulator pair_fold merge_accumulators low_above_240 high_above_240 range_of value64_in low_in high_in xxh3_64 xxh3_128 effective_secret default_secret derived_pairs derived_secret
values128_up_to_16 = refl

pub values64_up_to_240 : values64 (17 ∷ 32 ∷ 33 ∷ 128 ∷ 129 ∷ 239 ∷ 240 ∷ []) ≡
    0x9ef341a99de37328 ∷
    0x3523581fe96e4c05 ∷
    0xe68c56ba88991e58 ∷
    0x85c6174c7ff4c46b ∷
    0xec7642b431ba3e5a ∷
    0x972b14e3c46f214b ∷
    0x375a384d957fe865 ∷ []
unfolding word_at gen_from avalanche avalanche_xxh64 fold mix sum_below value64_0 low_0 high_0 combined_bytes low_1_to_3 high_1_to_3 mixed_seed strong value64_4_to_8 product_4_to_8 low_4_to_8 high_4_to_8 value64_9_to_16 first_9_to_16 second_9_to_16 high_word_9_to_16 low_word_9_to_16 both_words_9_to_16 product_9_to_16 both_ends value64_17_to_128 early later value64_129_to_240 accumulator_step first_17_to_128 second_17_to_128 pairs_first pairs_second first_129_to_240 second_129_to_240 merge_low merge_high accumulate_one scramble_one accumulator_after last_accumulator pair_fold merge_accumulators low_above_240 high_above_240 range_of value64_in low_in high_in xxh3_64 xxh3_128 effective_secret default_secret derived_pairs derived_secret
values64_up_to_240 = refl

pub values128_up_to_240 : values128 (17 ∷ 32 ∷ 33 ∷ 128 ∷ 129 ∷ 239 ∷ 240 ∷ []) ≡
    0x685bc458b37d057fc06e233df7729217 ∷
    0x25e7c9b3424ceed2457d9566b6fcd697 ∷
    0x02175c3aabb00637e08d84951339de86 ∷
    0x14792fc3af88dc6c05321a0b64d67b41 ∷
    0xdd5e74ac6b45f54ebc30b63382b09a3b ∷
    0x9843ab31a06be0dffe21374628fcc539 ∷
    0x65b5be86da5540e7c92b68e16f83bbb6 ∷ []
unfolding word_at gen_from avalanche avalanche_xxh64 fold mix sum_below value64_0 low_0 high_0 combined_bytes low_1_to_3 high_1_to_3 mixed_seed strong value64_4_to_8 product_4_to_8 low_4_to_8 high_4_to_8 value64_9_to_16 first_9_to_16 second_9_to_16 high_word_9_to_16 low_word_9_to_16 both_words_9_to_16 product_9_to_16 both_ends value64_17_to_128 early later value64_129_to_240 accumulator_step first_17_to_128 second_17_to_128 pairs_first pairs_second first_129_to_240 second_129_to_240 merge_low merge_high accumulate_one scramble_one accumulator_after last_accumulator pair_fold merge_accumulators low_above_240 high_above_240 range_of value64_in low_in high_in xxh3_64 xxh3_128 effective_secret default_secret derived_pairs derived_secret
values128_up_to_240 = refl

pub values64_above_240 : values64 (241 ∷ 244 ∷ 1024 ∷ []) ≡
    0x02e8cd95421c6d02 ∷
    0xbc17c91ec3cf8d7f ∷
    0xe5d78bafa45b2aa5 ∷ []
unfolding word_at gen_from avalanche avalanche_xxh64 fold mix sum_below value64_0 low_0 high_0 combined_bytes low_1_to_3 high_1_to_3 mixed_seed strong value64_4_to_8 product_4_to_8 low_4_to_8 high_4_to_8 value64_9_to_16 first_9_to_16 second_9_to_16 high_word_9_to_16 low_word_9_to_16 both_words_9_to_16 product_9_to_16 both_ends value64_17_to_128 early later value64_129_to_240 accumulator_step first_17_to_128 second_17_to_128 pairs_first pairs_second first_129_to_240 second_129_to_240 merge_low merge_high accumulate_one scramble_one accumulator_after last_accumulator pair_fold merge_accumulators low_above_240 high_above_240 range_of value64_in low_in high_in xxh3_64 xxh3_128 effective_secret default_secret derived_pairs derived_secret
values64_above_240 = refl

pub values128_above_240 : values128 (241 ∷ 244 ∷ 1024 ∷ []) ≡
    0x1da1cb61bcb8a2a102e8cd95421c6d02 ∷
    0x3ff493d7a8137ab6bc17c91ec3cf8d7f ∷
    0xd0ac1f7b93bf57b9e5d78bafa45b2aa5 ∷ []
unfolding word_at gen_from avalanche avalanche_xxh64 fold mix sum_below value64_0 low_0 high_0 combined_bytes low_1_to_3 high_1_to_3 mixed_seed strong value64_4_to_8 product_4_to_8 low_4_to_8 high_4_to_8 value64_9_to_16 first_9_to_16 second_9_to_16 high_word_9_to_16 low_word_9_to_16 both_words_9_to_16 product_9_to_16 both_ends value64_17_to_128 early later value64_129_to_240 accumulator_step first_17_to_128 second_17_to_128 pairs_first pairs_second first_129_to_240 second_129_to_240 merge_low merge_high accumulate_one scramble_one accumulator_after last_accumulator pair_fold merge_accumulators low_above_240 high_above_240 range_of value64_in low_in high_in xxh3_64 xxh3_128 effective_secret default_secret derived_pairs derived_secret
values128_above_240 = refl

pub seeded64_values : seeded64 0xdeadcafe (0 ∷ 1 ∷ 4 ∷ 9 ∷ 17 ∷ 129 ∷ 241 ∷ 1024 ∷ []) ≡
    0x4aede68389c0e311 ∷
    0x78fc079a75aaf3c0 ∷
    0x1b7306b89f254507 ∷
    0x7df7627fd1f939b6 ∷
    0x49ca0fff09501622 ∷
    0x2bfdcaec30ff3000 ∷
    0xf98456bc25be0901 ∷
    0x24839f0fcdf4d078 ∷ []
unfolding word_at gen_from avalanche avalanche_xxh64 fold mix sum_below value64_0 low_0 high_0 combined_bytes low_1_to_3 high_1_to_3 mixed_seed strong value64_4_to_8 product_4_to_8 low_4_to_8 high_4_to_8 value64_9_to_16 first_9_to_16 second_9_to_16 high_word_9_to_16 low_word_9_to_16 both_words_9_to_16 product_9_to_16 both_ends value64_17_to_128 early later value64_129_to_240 accumulator_step first_17_to_128 second_17_to_128 pairs_first pairs_second first_129_to_240 second_129_to_240 merge_low merge_high accumulate_one scramble_one accumulator_after last_accumulator pair_fold merge_accumulators low_above_240 high_above_240 range_of value64_in low_in high_in xxh3_64 xxh3_128 effective_secret default_secret derived_pairs derived_secret
seeded64_values = refl

-- Lemma: the secret derived from seed 0 is the default secret.
pub derived_secret_none : derived_secret 0 ≡ default_secret
unfolding word_at default_secret derived_pairs derived_secret
derived_secret_none = refl
