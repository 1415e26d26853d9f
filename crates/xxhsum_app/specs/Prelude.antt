-- The types and words that most words and lemmas of the crate cite, passed on from one place. Declares nothing.
pub use Rattle.xxhsum_program.specs.Prelude.{AllByRecursion, EachHas, Eprints, EprintsLines, Files, FolderRules, Input, Kind, Options, Refusal, Refused, SinkRules, SourceRules, StoreRules, Style, Took, concat, files_of, input_of, one_line}
pub use Rattle.xxhsum_program.specs.Order.{Effect, StreamRules, effect_of}
pub use Rattle.xxhsum_program.specs.declared.streams.Streams.{Streams}
pub use Rattle.xxhsum_program.specs.declared.outcome.Outcome.{Outcome}
pub use Rattle.xxhsum_program.specs.declared.outcome.Outcome.TheVariants.{Digested, IsDirectory, Unread}
pub use Rattle.xxhsum_program.specs.declared.stop.Stop.{Stop}
pub use Rattle.xxhsum_program.specs.declared.stop.Stop.TheVariants.{OutOfMemory, WriteFailed}
