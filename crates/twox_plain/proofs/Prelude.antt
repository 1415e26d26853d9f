-- The names that most proofs of the crate import from other modules, re-exported by one module. Declares nothing.
pub use Rattle.serde_json.specs.Data.{Data, depth, items_depth, no_items, number, unsigned}
pub use Rattle.serde_json.specs.Find.{as_array}
pub use Rattle.serde_json.specs.Read.{max_depth}
pub use Rattle.serde_json.specs.View.{items_view, view}
pub use Rattle.serde_json.specs.Written.{compact_text, has_float, items_have_float, items_text}
pub use Rattle.serde_json.specs.declared.value.Value.{Value}
pub use Rattle.std.proofs.Common.{[], ◌%◌, ◌*◌, ◌++◌, ◌+◌, ◌-◌, ◌/◌, ◌<◌, ◌^◌, ◌∙◌, ◌∷◌, ◌≡◌, ◌≢◌, ◌≤◌, List, Option, Some, ap, ap₂, arith, drop, false, if◌then◌else◌, inl, inr, length, length-drop, lit<, lit≤, map, min, mod-lt}
pub use Rattle.std.proofs.Common.{nat_lt, option_map, pow_pos, refl, replicate, rules, slice_index, subst, suc, sym, take, true, zero, zero-add, ℕ}
pub use Rattle.std.proofs.Math.Nat.{div-eq_of_lt, eq-or-lt_of_le}
pub use Rattle.std.proofs.Math.Seq.{drop-append-add, take-append-add}
pub use Rattle.std.proofs.lemmas.Bool.{cases_lt, eq-eqb, false≢true, ne_eqb}
pub use Rattle.std.proofs.lemmas.Bool.Decides.{nat_tests}
pub use Rattle.std.proofs.lemmas.Grind.{same_number_lists}
pub use Rattle.std.proofs.lemmas.List.{append-nil, drop-drop, drop_all, drop_more, get_or-drop, length-take-le, take-append-drop, take_all, take_more_set}
pub use Rattle.std.proofs.lemmas.Nat.{div-add-mod', div-mul-add, le-div, mod-mul-add, mod_below, mul-le, xor_lt}
pub use Rattle.std.proofs.lemmas.Result.{IfOk-weaker}
pub use Rattle.std.proofs.lemmas.Slice.{take-put_mid}
pub use Rattle.std.specs.Int.{Width, byte_len, from_le_bytes, rotate_left, w32, w64}
pub use Rattle.std.specs.Prelude.{option_and_then}
pub use Rattle.twox_plain.specs.BlockState.{BlockState, Follows}
pub use Rattle.twox_plain.specs.ChangedUnit.{DiffersWithin, IsTailUnit64, IsUnit32}
pub use Rattle.twox_plain.specs.Saved64.{core_data, core_of_data, record_data, record_of_data, saved_text}
pub use Rattle.twox_plain.specs.SavedText.{bytes_data, bytes_of_data, item_bytes, item_count, whole_number}
pub use Rattle.twox_plain.specs.StateInMemory32.{record_of}
pub use Rattle.twox_plain.specs.Xxh32.{p2, round}
pub use Rattle.twox_plain.specs.declared.xxhash32.Core.{Core}
pub use Rattle.twox_plain.specs.declared.xxhash32.SavedState.{SavedState}
pub use Rattle.twox_plain.specs.declared.xxhash64.TheConstants.{MARK}
pub use Rattle.twox_words.proofs.OneToOne.{IsOneToOne, multiple_back}
pub use Rattle.twox_words.proofs.Rotations.{left-lt, left_is_rotated, rotated, rotated-lt, turned_back}
pub use Rattle.twox_words.proofs.WordFacts.{word_at-append, word_at-append_right, word_at-drop, word_at-part, word_at_listed}
pub use Rattle.twox_words.proofs.WordLaws.{IsBytes-part, at_part, length-part, told_by_word_32, told_by_word_64, word_at-lt_32, word_at-lt_64}
pub use Rattle.twox_words.specs.Word.{IsBytes, counted, wrap_add, wrap_sub}
