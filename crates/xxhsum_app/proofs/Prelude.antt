-- The names that most proofs of the crate import from other modules, re-exported by one module. Declares nothing.
pub use Rattle.std.proofs.Common.{[], ◌&&◌, ◌++◌, ◌+◌, ◌-◌, ◌∙◌, ◌∷◌, ◌≡◌, ◌≤◌, Bool, Err, List, MatchResult, None, Ok, Option, Result, Some, ap, append-nil, append_assoc, arith, codes, drop, false, flat_map, inl, inr, length, map}
pub use Rattle.std.proofs.Common.{option_to_list, refl, reverse, subst, sym, take, true, ℕ}
pub use Rattle.std.proofs.lemmas.Bool.{cond-false}
pub use Rattle.std.proofs.lemmas.Bool.Decides.{nat_tests}
pub use Rattle.std.proofs.lemmas.List.{drop_more, get_or-map, length-map, length_push, map-append, map-id, map_more, reverse-append, take_all, take_rest}
pub use Rattle.std.proofs.lemmas.List.Concat.{flat_map-append}
pub use Rattle.std.proofs.lemmas.List.Sorted.{IsPermutation-refl, IsPermutation-sym, IsPermutation-trans}
pub use Rattle.std.specs.Cmp.Lexicographic.{pointwise, slice_cmp}
pub use Rattle.std.specs.List.{ends_with}
pub use Rattle.std.specs.declared.alloc.AllocError.{AllocError}
pub use Rattle.xxh_io.proofs.WriteFacts.{Refused-join, Refused-more, Took-join}
pub use Rattle.xxh_io.specs.Digest.{Took}
pub use Rattle.xxhsum_app.specs.AuditLaws.{AuditMeansEqual, IsFileOf}
pub use Rattle.xxhsum_app.specs.Audits.{AnswersAudit, ReportsDuplicate, duplicate_text}
pub use Rattle.xxhsum_app.specs.Digests.{AddsRow, DigestsRows, Grows, HoldsRows}
pub use Rattle.xxhsum_app.specs.Finds.{Finds}
pub use Rattle.xxhsum_app.specs.Names.{AreNamesIn, ListNames, ListNone, end_of}
pub use Rattle.xxhsum_app.specs.Prelude.{Kind, Options, OutOfMemory, SinkRules, SourceRules, Stop, files_of, input_of}
pub use Rattle.xxhsum_app.specs.ReadList.{HaveItems, ListSays, ListSaysNothing}
pub use Rattle.xxhsum_app.specs.Report.{PrintsFirst, PrintsRemarks, PrintsReport, are_same, counts_text, remarks_of, report_text, shown_text, shown_texts}
pub use Rattle.xxhsum_app.specs.Rows.{Added, AreRows, IsRow, Met, Removed, Row, is_hidden, messages_in, unread_in, unread_of}
pub use Rattle.xxhsum_app.specs.Texts.{Breaks, GivesText, HasNoText, HasText, unopened_text, unread_text}
pub use Rattle.xxhsum_app.specs.Walk.{Closed, IsIn, IsSeen, Leaf, Lost, Opened, Passed, Seen, Tree, Visits, WalksAll, below, closed_in, closed_text, files_in, given, lost_in, lost_of, kept_name, place_of, tree_of, waiting_in, with_slash, without}
pub use Rattle.xxhsum_app.specs.WalkLaws.{FindsOnce, HoldsNames, IsOnce}
pub use Rattle.xxhsum_app.specs.declared.walk.Walked.{Walked}
pub use Rattle.xxhsum_audit.proofs.AmongFacts.{among_either, among_permutation}
pub use Rattle.xxhsum_audit.proofs.DuplicateFacts.{rises}
pub use Rattle.xxhsum_audit.proofs.EqualFacts.{same_means_equal}
pub use Rattle.xxhsum_audit.proofs.FoundFacts.{met_is}
pub use Rattle.xxhsum_audit.proofs.OrderFacts.{ahead, back, paths_total}
pub use Rattle.xxhsum_audit.proofs.TurnFacts.{by_turns}
pub use Rattle.xxhsum_audit.specs.Audit.{matched_in, matched_one, missing_in, missing_one, new_in, new_one}
pub use Rattle.xxhsum_audit.specs.Found.{Found, Missing, New, found_of, founds_of, met}
pub use Rattle.xxhsum_audit.specs.Item.{IsAmong, Item, Says, item_of, items_of, kind_of, name_of, names_of, texts_of}
pub use Rattle.xxhsum_audit.specs.List.{GiveAll, SayAll, SaysOne, TakesLine, entry_item}
pub use Rattle.xxhsum_audit.specs.Order.{IsOrder, Rises, compare_lines, compare_paths, find_duplicate, rank_lines, rank_names}
pub use Rattle.xxhsum_audit.specs.Parts.{ArePartsOf}
pub use Rattle.xxhsum_audit.specs.Read.{BreaksOff}
pub use Rattle.xxhsum_audit.specs.Text.{Classed, Remark, Unreadable}
pub use Rattle.xxhsum_program.specs.Command.{has_none}
pub use Rattle.xxhsum_audit.specs.Side.{by_path, compare_to_name, path_side}
pub use Rattle.xxhsum_audit.specs.declared.digest.FileDigest.{FileDigest}
pub use Rattle.xxhsum_audit.specs.declared.moves.Compared.{Compared}
pub use Rattle.xxhsum_audit.specs.declared.side.Side.{Side}
pub use Rattle.xxhsum_audit.specs.declared.side.Side.TheVariants.{Both, Line, Name}
pub use Rattle.xxhsum_audit.specs.declared.verdict.Verdict.{Verdict}
pub use Rattle.xxhsum_fs.specs.Folders.{ClosesFor}
pub use Rattle.xxhsum_fs.specs.declared.folders.PathKind.{PathKind}
pub use Rattle.xxhsum_fs.specs.declared.folders.PathKind.TheVariants.{File, Folder, Other, Unknown}
pub use Rattle.xxhsum_line.proofs.LackFacts.{first_same, lacks_not, lacks_right}
pub use Rattle.xxhsum_line.specs.Parts.{Lacks}
pub use Rattle.xxhsum_options.specs.Exclude.{patterns_in}
pub use Rattle.xxhsum_options.specs.Name.{kind_of_program}
pub use Rattle.xxhsum_options.specs.Options.{parsed_args}
pub use Rattle.xxhsum_options.specs.declared.options.ParsedArgs.{ParsedArgs}
pub use Rattle.xxhsum_program.proofs.CheckFacts.{Stands, breaks-endless, breaks-failed, ends-well, some-read, stands-line, stands-new}
pub use Rattle.xxhsum_program.proofs.EachFacts.{EachHas-push, all-push, and-false, and-true, both-true, list_all-push, map-more, map-split}
pub use Rattle.xxhsum_program.proofs.EprintFacts.{lines-more, reports-nothing}
pub use Rattle.xxhsum_program.proofs.HashFacts.{is-err}
pub use Rattle.xxhsum_program.proofs.ProgressReaderFacts.{inner-pieces}
pub use Rattle.xxhsum_program.specs.EachHas.{EachHas}
pub use Rattle.xxhsum_program.specs.Eprints.{EprintsLines}
pub use Rattle.xxhsum_program.specs.Lines.{PrintsLine}
pub use Rattle.xxhsum_program.specs.LinesView.{IsGiven, reason_behind}
pub use Rattle.xxhsum_program.specs.ListMessages.{improper_text, too_long_text}
pub use Rattle.xxhsum_program.specs.Order.{Effect, effect_of, rules_of}
pub use Rattle.xxhsum_program.specs.Outcomes.{is_digested}
pub use Rattle.xxhsum_program.specs.ProgressReader.{progress_reading, source_of}
pub use Rattle.xxhsum_program.specs.Run.{input_name}
pub use Rattle.xxhsum_program.specs.Streams.{err_of, streams_of}
pub use Rattle.xxhsum_program.specs.declared.process.Interactive.{Interactive}
pub use Rattle.xxhsum_program.specs.declared.progress_reader.ProgressReader.{ProgressReader}
