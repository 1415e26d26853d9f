-- The names that most proofs of the crate import from other modules, re-exported by one module. Declares nothing.
pub use Rattle.std.proofs.Common.{Bool, Bor, Contains, Equal, Greater, IsPermutation, IsSortedBy, Less, List, None, Option, Ordering, Some, [], ap, append-nil, append_assoc, arith, codes, cond, count_by, drop, false, flat_map}
pub use Rattle.std.proofs.Common.{get_or, if◌then◌else◌, inl, inr, length, length-append, map, nat_eq, refl, rules, set, subst, suc, sum_by, swap, sym, take, true, zero, ℕ, ◌++◌, ◌+◌, ◌<◌, ◌==◌, ◌∙◌, ◌∷◌, ◌≡◌, ◌≢◌, ◌≤◌, ◌⊎◌}
pub use Rattle.std.proofs.lemmas.Bool.{cond-false, cond-true}
pub use Rattle.std.proofs.lemmas.Cmp.{alike_right, nat_cmp_total, nat_list_cmp_total, on_total, then_total, tied_itself}
pub use Rattle.std.proofs.lemmas.Fn.{always_returns_same}
pub use Rattle.std.proofs.lemmas.List.{append_cancel_left, append_cancel_right, drop_all, drop_more, length-take-le, map-append, reverse-append}
pub use Rattle.std.proofs.lemmas.List.Concat.{flat_map-append}
pub use Rattle.std.proofs.lemmas.List.Sorted.{Contains-permutation, IsPartitionPoint-from_clause, IsPermutation-append_comm, IsPermutation-append_left, IsPermutation-append_right, IsPermutation-map, IsPermutation-refl, IsPermutation-sym}
pub use Rattle.std.proofs.lemmas.List.Sorted.{IsPermutation-keeps, IsPermutation-trans, ranks_by, sorted_far, sum_by-IsPermutation}
pub use Rattle.std.proofs.lemmas.List.Sums.{sum_by-cons}
pub use Rattle.std.proofs.lemmas.Map.Lookups.{exact_bytes, exact_unsigned}
pub use Rattle.std.specs.Cmp.{IsTotalOrder}
pub use Rattle.std.specs.Cmp.Lexicographic.{slice_cmp}
pub use Rattle.std.specs.Ordering.{is_eq, is_lt, nat_cmp, ordering_index, ordering_reverse, ordering_then}
pub use Rattle.xxhsum_audit.specs.Audit.{HasMoves, IsAudit, IsDuplicate, as_found, compared, copied, matched_in, matched_one, missing_in, missing_one, moved, new_in, new_one, original, same_in, same_one, with_copy}
pub use Rattle.xxhsum_audit.specs.declared.verdict.Class.{Class}
pub use Rattle.xxhsum_audit.specs.Found.{Changed, Copied, Found, Missing, Moved, New, Same, class_of, found_of, founds_of, rank_founds, rank_of_class, source_in, told, is_of_class, line_in, lines_in, met, name_in, names_in}
pub use Rattle.xxhsum_audit.specs.Item.{HasSameDigest, IsAmong, Item, LacksPath, Says, is_dotted, item_of, items_of, kind_of, name_of, names_of, path_of, texts_of, value_of}
unfoldable pub use Rattle.xxhsum_audit.specs.Item.{normalize_path}
pub use Rattle.xxhsum_audit.specs.Laws.{CopiesTheFirst, CountsAddUp, HasNoDuplicate, IsKept, IsOneReport, IsRight, LeavesNoCopy, LeavesNoMove, SameMeansEqual, StaysSame, TellsEachLineOnce, TellsEachNameOnce, TellsRight}
pub use Rattle.xxhsum_audit.specs.Order.{Ascends, IsOrder, Rises, compare_digests, compare_lines, compare_paths, find_duplicate, rank_digests, rank_lines, rank_names, rank_of, shares_path}
pub use Rattle.xxhsum_audit.specs.Parts.{ArePartsOf, ended}
pub use Rattle.xxhsum_audit.specs.Side.{IsFirst, against, by_digest, compare_to_name, in_turn}
unfoldable pub use Rattle.xxhsum_audit.specs.Side.{beside}
pub use Rattle.xxhsum_audit.specs.Text.{HasNoNul, IsSameRemark, LinesDiffer, OtherLacks, RecordsDiffer, RemarkIsOneLine, Remark, Classed, Unreadable, body_of, escape_behind, escaped_behind, has_separator, is_marked, is_separator, other_escaped, other_needs_escape, other_record, remark_text, told_name, told_other, told_words}
pub use Rattle.xxhsum_audit.specs.declared.side.Side.{Side}
