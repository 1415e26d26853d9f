-- The rules of a stream as one record: what its reads return or its writes take, how they fail, and whether one has.
use Rattle.xxh_io.specs.declared.streams.Source as source
use Rattle.xxh_io.specs.declared.streams.Sink as sink

-- `gives`, `fails` and `has_failed` of a source
abbrev pub SourceRules : Type 0 → Type 1
SourceRules S = source.Ghosts S

-- `takes`, `refuses` and `has_failed` of a sink
abbrev pub SinkRules : Type 0 → Type 1
SinkRules S = sink.Ghosts S
