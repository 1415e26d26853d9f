-- The names that most proofs of the crate import from other modules, re-exported by one module. Declares nothing.
pub use Rattle.std.proofs.Common.{[], ◌%◌, ◌*◌, ◌++◌, ◌+◌, ◌-◌, ◌/◌, ◌<◌, ◌==◌, ◌^◌, ◌∙◌, ◌∷◌, ◌≡◌, ◌≤◌, Fits, List, add-one, add-zero, ap, ap₂, arith, bit_and, bit_xor, drop, false, get_or, inl, inr, length, length-drop, lit≤, nat_le}
pub use Rattle.std.proofs.Common.{nat_lt, refl, rules, subst, suc, sym, take, true, w8, zero, ℕ}
pub use Rattle.std.proofs.Math.ListN.{drop_of_length-le}
pub use Rattle.std.proofs.Math.Nat.{div-add-mod, div-div-eq-div-mul, div-eq_of_lt, mul-div-le, mul-mod_left, zero-mod}
pub use Rattle.std.proofs.Math.Seq.{take-append-add}
pub use Rattle.std.proofs.lemmas.Bool.{cases_lt}
pub use Rattle.std.proofs.lemmas.Bool.Decides.{nat_tests}
pub use Rattle.std.proofs.lemmas.Grind.{same_number_lists}
pub use Rattle.std.proofs.lemmas.List.{append-nil, drop-append-le, drop-drop, drop-take, drop_at, length-take-le, take-append-le, take-take, take_all, take_at}
pub use Rattle.std.proofs.lemmas.Nat.{and_mask, mod-mul-add, mod_below, xor_lt, xor_mod, xor_shr}
pub use Rattle.std.proofs.lemmas.Nat.Bits.{bit_at_xor, same_from_bits}
pub use Rattle.std.proofs.lemmas.Simd.{below_from_Fits, chunk-fits, get_or_wider, put_chunk_whole}
pub use Rattle.std.specs.Int.{from_le_bytes, swap_bytes, to_le_bytes, w32, w64}
pub use Rattle.std.specs.Int.Bits.{xor_zero_r}
pub use Rattle.std.specs.Simd.{first_chunks}
pub use Rattle.twox_core.specs.CoreView.{CoreView, buffered_of, done_of, total_of}
pub use Rattle.twox_core.specs.Kernel.{accumulate, eight, round_scramble}
pub use Rattle.twox_core.specs.Laws.{HasLowHalf64, TellsOthers128, TellsOthers64}
pub use Rattle.twox_core.specs.Long.{stripes_of}
pub use Rattle.twox_core.specs.OtherBytes.{IsOtherShort128, IsOtherShort64}
pub use Rattle.twox_core.specs.Parts.{chunk_at, pair_at, stripe_at}
pub use Rattle.twox_core.specs.Primes.{prime32_2, prime64_1, prime64_2, prime64_3, prime_mx1, prime_mx2}
pub use Rattle.twox_core.specs.Represents.{IsCopy, TookStripes}
pub use Rattle.twox_core.specs.SecretBytes.{secret_bytes}
pub use Rattle.twox_core.specs.Steps.{add64, sub64, word64}
pub use Rattle.twox_core.specs.StreamKey.{StreamKey}
pub use Rattle.twox_core.specs.Stripes.{no_stripe}
pub use Rattle.twox_core.specs.Value.{short_secret, steps_of, stream_seed}
pub use Rattle.twox_core.specs.declared.xxhash3.streaming.core_state.CoreState.{CoreState}
pub use Rattle.twox_core.specs.declared.xxhash3.streaming.taken_stripes.TakenStripes.{TakenStripes}
pub use Rattle.twox_core.specs.declared.xxhash3.stripes.StripeAccumulator.{StripeAccumulator}
pub use Rattle.twox_words.proofs.OneToOne.{xor_shift-lt}
pub use Rattle.twox_words.proofs.WordFacts.{first_chunks_at, first_chunks_take, listed, take_listed, word_at-append, word_at-append_right, word_at-drop, word_at-part}
pub use Rattle.twox_words.proofs.WordLaws.{told_by_word_32, told_by_word_64, word_at-lt_32, word_at-lt_64}
pub use Rattle.twox_words.specs.Word.{IsBytes, counted}
