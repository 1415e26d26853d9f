-- The names that most proofs of the crate import from other modules, re-exported by one module. Declares nothing.
pub use Rattle.memchr.specs.Find.{is_byte}
pub use Rattle.std.proofs.Common.{Bool, List, MatchOption, None, Option, Some, [], add-one, ap, append-nil, append_assoc, arith, drop, eq-eqb, false, get_or, if◌then◌else◌, inl, inr, length, length-append, nat_eq, nat_lt}
pub use Rattle.std.proofs.Common.{option_and_then, option_map, refl, rules, subst, suc, sym, take, true, zero, ℕ, ◌%◌, ◌&&◌, ◌*◌, ◌++◌, ◌+◌, ◌-◌, ◌/◌, ◌<◌, ◌^◌, ◌||◌, ◌∙◌, ◌∷◌, ◌≡◌, ◌≢◌, ◌≤◌, ◌⊎◌}
pub use Rattle.std.proofs.Math.Nat.{pow-le-pow_right, pow-suc}
pub use Rattle.std.proofs.lemmas.Bool.{and_parts, both_ways, cases_eq, cond-false, ne_eqb, or_parts}
pub use Rattle.std.proofs.lemmas.Bool.Decides.{Decides-eqb, eqb_tells, nat_tests}
pub use Rattle.std.proofs.lemmas.List.{append_cancel_right, drop_more, get_or-drop, get_or-take, length-drop, length-take-le, same_from_push}
pub use Rattle.std.proofs.lemmas.List.{take-append-drop, take_more, take_rest}
pub use Rattle.std.proofs.lemmas.Option.{MatchOption-at_none, none-some, option_and_then_some, same_Some}
pub use Rattle.std.proofs.lemmas.Slice.Eq.{strip_suffix_is}
pub use Rattle.xxh_io.specs.Kind.{digits_of}
pub use Rattle.xxh_io.specs.declared.kind.Kind.{Kind}
pub use Rattle.xxh_io.specs.declared.kind.Kind.TheVariants.{X32, X3_128, X3_64, X64}
pub use Rattle.xxhsum_line.specs.Digits.{digit_of, in_order, number_after, number_of, value_shown}
unfoldable pub use Rattle.xxhsum_line.specs.Digits.{bytes_reversed}
pub use Rattle.xxhsum_line.specs.Entry.{Says, SaysNothing, SaysPlain, TextSays, TextSaysNothing, is_comment, value_meant}
pub use Rattle.xxhsum_line.specs.Escapes.{before, body_of, escape, escaped, is_escaped, is_special, mark_of, meant_behind, meant_by, name_meant, needs_escape, unescaped}
pub use Rattle.xxhsum_line.specs.Meaning.{Means}
pub use Rattle.xxhsum_line.specs.Parts.{EndsTagged, HasNoParts, HasNoTaggedParts, HasParts, IsPlain, IsTagged, IsTaggedWith, Lacks, up_to_nul, without_return}
pub use Rattle.xxhsum_line.specs.Printed.{formed, full_tag, line_of, plain_text, prefix_of, shown, tagged_text, text_of}
pub use Rattle.xxhsum_line.specs.Tags.{has_prefix, is_little_tag, kind_of_count, kind_of_digits, kind_of_tag, without_prefix}
