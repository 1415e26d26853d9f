-- A source whose reads are shown.
use Rattle.std.specs.Prelude.{◌≡◌, ℕ, Bool, List, Option, None, MatchBool, Result, Ok, Err}
use Rattle.xxh_io.specs.declared.streams.Failed.{Failed}
use Rattle.xxhsum_program.specs.Prelude.{ProgressDisplay, ProgressReader, SinkRules, SourceRules, StoreRules}
use Rattle.xxhsum_program.specs.declared.progress.Progress.{Progress}
use Rattle.xxhsum_program.specs.Progress.{ShowsSometime, bytes_expected, bytes_read, is_shown}

-- The inner source.
abbrev pub source_of : {R E : Type 0} → ProgressReader R E → R
source_of progress_reader = progress_reader.source

-- The progress of its reads.
abbrev pub progress_of : {R E : Type 0} → ProgressReader R E → Progress E
progress_of progress_reader = progress_reader.progress

-- True if reads are shown.
abbrev pub shows_reads : {T : Type 0} → ProgressDisplay T → Bool
shows_reads display = display.is_on

-- A read was shown with its number of bytes, or with 0 if it failed.
abbrev pub ShowsRead : {E : Type 0} → SinkRules E → Progress E → Progress E → Result ℕ Failed → Type 0
ShowsRead reporting old new (Ok count) = ShowsSometime reporting count old new
ShowsRead reporting old new (Err e) = ShowsSometime reporting 0 old new

-- The store has this size for the file of this name. If nothing is shown, there is no size.
abbrev pub IsExpected : {S F T : Type 0} → StoreRules S F → S → ProgressDisplay T → List ℕ → Option ℕ → Type 0
IsExpected opening store display name size =
    MatchBool (shows_reads display) (opening.sizes store name size) (size ≡ None)

-- The progress is that of the file of this name, of which no byte is read.
abbrev pub IsFresh : {S F T E : Type 0} → StoreRules S F → S → ProgressDisplay T → List ℕ → Progress E → Type 0
IsFresh opening store display name progress =
    (is_shown progress ≡ shows_reads display) × (bytes_read progress ≡ 0)
    × IsExpected opening store display name (bytes_expected progress)

-- The rules of a source with progress are the rules of its inner source.
abbrev pub progress_reading : {R X : Type 0} → SourceRules R → SourceRules (ProgressReader R X)
progress_reading reading = record {
  has_failed = λ progress_reader. reading.has_failed (source_of progress_reader);
  gives = λ old piece new. reading.gives (source_of old) piece (source_of new);
  fails = λ old new. reading.fails (source_of old) (source_of new);
  reason = λ progress_reader. reading.reason (source_of progress_reader);
}
