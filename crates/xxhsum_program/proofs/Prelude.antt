-- The names that most proofs of the crate import from other modules, re-exported by one module. Declares nothing.
pub use Rattle.memchr.specs.Find.{IsFirstByte, is_byte}
pub use Rattle.std.proofs.Common.{[], ◌++◌, ◌+◌, ◌-◌, ◌<◌, ◌==◌, ◌||◌, ◌∙◌, ◌∷◌, ◌≡◌, ◌≢◌, ◌≤◌, Bool, Err, List, Ok, Result, ap, append-nil, append_assoc, arith, codes, drop, false, get_or, inl, inr, length, map, refl}
pub use Rattle.std.proofs.Common.{rules, slice_index, slice_range, subst, sym, take, ℕ}
pub use Rattle.std.proofs.Math.Seq.{take-append-add}
pub use Rattle.std.proofs.lemmas.Bool.{both_ways, false≢true}
pub use Rattle.std.proofs.lemmas.Bool.Decides.{eqb_tells, nat_tests}
pub use Rattle.std.proofs.lemmas.List.{drop_more, length-map, length-take-le, length_push, map-append, take_all, take_more, take_rest}
pub use Rattle.std.proofs.lemmas.List.Edits.{length-between}
pub use Rattle.std.proofs.lemmas.Option.{same_Some}
pub use Rattle.std.specs.List.{list_all}
pub use Rattle.xxh_io.proofs.MemoryFacts.{slice-end, slice-pieces}
pub use Rattle.xxh_io.proofs.PieceFacts.{NoneEmpty-push, Pieces-push, concat-push}
pub use Rattle.xxh_io.proofs.WriteFacts.{Refused-join, Refused-more, Took-join, Writes-join}
pub use Rattle.xxh_io.specs.Digest.{ReadsOn, ReadsTo, Writes}
pub use Rattle.xxh_io.specs.Kind.{digits_of}
pub use Rattle.xxh_io.specs.Reports.{TakesOrFails}
pub use Rattle.xxh_io.specs.Script.{slice_reading, slice_rest}
pub use Rattle.xxh_io.specs.declared.digest_error.DigestError.{DigestError}
pub use Rattle.xxh_io.specs.declared.script_source.SliceSource.{SliceSource}
pub use Rattle.xxh_io.specs.declared.streams.Failed.{Failed}
pub use Rattle.xxh_program.proofs.ValueFacts.{value-lt}
pub use Rattle.xxhsum_line.proofs.EntryFacts.{says_same}
pub use Rattle.xxhsum_line.proofs.EscapeFacts.{escaped_append, escaped_more, needs_append, plain_names_stay}
pub use Rattle.xxhsum_line.proofs.LackFacts.{at_place, first_same, lacks_by_place, lacks_from, lacks_not}
pub use Rattle.xxhsum_line.specs.Entry.{Says, is_comment}
pub use Rattle.xxhsum_line.specs.Escapes.{escape, escaped, needs_escape, one_line}
pub use Rattle.xxhsum_line.specs.Laws.{EscapeIsUndone, PlainNamesStay}
pub use Rattle.xxhsum_line.specs.Meaning.{Means}
pub use Rattle.xxhsum_line.specs.Printed.{line_of, styled_line}
pub use Rattle.xxhsum_options.specs.Table.{letter_text, row_text}
pub use Rattle.xxhsum_program.specs.CheckList.{AreAllDone, Checked, IsDone, IsListOutcome, ListOutcome, Unopened, are_good, is_good_outcome, outcome_events}
pub use Rattle.xxhsum_program.specs.Files.{input_of}
pub use Rattle.xxhsum_program.specs.Findings.{Finding, Ignored, Improper, IsFinding, Proper, TooLong, add_up, count_one, count_proper, no_findings, report_of, with_broken_end}
pub use Rattle.xxhsum_program.specs.Finish.{IsWritten}
pub use Rattle.xxhsum_program.specs.Found.{IsFound}
pub use Rattle.xxhsum_program.specs.GoodList.{GoodMeansEqual, IsPassedOver, IsWell, OkMeansEqual}
pub use Rattle.xxhsum_program.specs.HashNames.{EndsWith, SaysInput, input_events, name_events}
pub use Rattle.xxhsum_program.specs.Joined.{joined}
pub use Rattle.xxhsum_program.specs.Lines.{PrintsLine, lines_of, name_messages}
pub use Rattle.xxhsum_program.specs.LinesView.{HasRead, IsAtEnd, IsGiven, IsHeld, IsNext, IsRead, most_reads_left, reason_behind, waiting}
pub use Rattle.xxhsum_program.specs.ListEnd.{Endless, FailedRead, ListEnd, TooMany, Whole, report_at}
pub use Rattle.xxhsum_program.specs.ListLines.{FailsAfter, IsLastLine, end_piece}
pub use Rattle.xxhsum_program.specs.ListMessages.{finding_events, numbered}
pub use Rattle.xxhsum_program.specs.Order.{Emits, EmitsAll, EmitsOrNone, EmitsTo, Event, Printed, Reported, StreamRules, effect_of, printed_of, rules_of}
pub use Rattle.xxhsum_program.specs.Outcomes.{Comes, HasNoValue, IsValueOf, are_digested, error_text, has_no_file, is_digested, reason_of, reason_text}
pub use Rattle.xxhsum_program.specs.Prelude.{AllByRecursion, EachHas, Eprints, EprintsLines, Lacks, NoneEmpty, OutOfMemory, Outcome, Pieces, ProgressReader, Refused, SinkRules, SourceRules, Stop, Took, WriteFailed, concat, files_of}
pub use Rattle.xxhsum_program.specs.Progress.{cleared, count_after, empty_line, left_text, line_text, progress_line, rate_of, shown_text}
pub use Rattle.xxhsum_program.specs.ProgressReader.{progress_reading, source_of}
pub use Rattle.xxhsum_program.specs.Report.{is_good, is_unverified, passes}
pub use Rattle.xxhsum_program.specs.Run.{style_of}
pub use Rattle.xxhsum_program.specs.Streams.{streams_of}
pub use Rattle.xxhsum_program.specs.declared.entry.Found.TheVariants.{Different, Same, Unread}
pub use Rattle.xxhsum_program.specs.declared.lines.Lines.{Lines}
pub use Rattle.xxhsum_program.specs.declared.streams.Streams.{Streams}
