-- The types and definitions that most of the crate uses, re-exported by one module. Declares nothing.
pub use Rattle.std.specs.List.{AllByRecursion, concat}
pub use Rattle.xxh_io.specs.Digest.{Refused, Took}
pub use Rattle.xxh_io.specs.Pieces.{NoneEmpty, Pieces}
pub use Rattle.xxh_io.specs.Rules.{SinkRules, SourceRules}
pub use Rattle.xxh_io.specs.declared.kind.Kind.{Kind}
pub use Rattle.xxhsum_fs.specs.Rules.{FolderRules, StoreRules}
pub use Rattle.xxh_io.specs.declared.refusal.Refusal.{Refusal}
pub use Rattle.xxhsum_line.specs.Escapes.{one_line}
pub use Rattle.xxhsum_line.specs.Parts.{Lacks}
pub use Rattle.xxhsum_line.specs.declared.printed.Shape.{Shape}
pub use Rattle.xxhsum_line.specs.declared.printed.Style.{Style}
pub use Rattle.xxhsum_program.specs.EachHas.{EachHas}
pub use Rattle.xxhsum_program.specs.Files.{Files, Input, files_of, input_of}
pub use Rattle.xxhsum_program.specs.Eprints.{Eprints, EprintsLines}
pub use Rattle.xxhsum_program.specs.declared.check.Report.{Report}
pub use Rattle.xxhsum_program.specs.declared.entry.Found.{Found}
pub use Rattle.xxhsum_program.specs.declared.outcome.Outcome.{Outcome}
pub use Rattle.xxhsum_program.specs.declared.outcome.Outcome.TheVariants.{Digested, IsDirectory, Unread}
pub use Rattle.xxhsum_program.specs.declared.outcome.Reason.{Reason}
pub use Rattle.xxhsum_program.specs.declared.stop.Stop.{Stop}
pub use Rattle.xxhsum_program.specs.declared.stop.Stop.TheVariants.{OutOfMemory, WriteFailed}
pub use Rattle.xxhsum_program.specs.declared.streams.Streams.{Streams}
pub use Rattle.xxhsum_program.specs.declared.progress_reader.ProgressReader.{ProgressReader}
pub use Rattle.xxhsum_options.specs.declared.options.Options.{Options}
pub use Rattle.xxhsum_program.specs.declared.progress_reader.ProgressDisplay.{ProgressDisplay}
