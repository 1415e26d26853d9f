-- A part of a run that reads a source and writes to a sink.
use Rattle.xxh_io.specs.Rules.{SourceRules, SinkRules}

-- The source and the sink with their rules, before and after the part.
pub record Filter (R W : Type 0) : Type 1 where
  pub reading : SourceRules R
  pub writing : SinkRules W
  pub source : R
  pub rest : R
  pub old : W
  pub new : W

abbrev pub filter_of : {R W : Type 0} → SourceRules R → SinkRules W → R → R → W → W → Filter R W
filter_of reading writing source rest old new =
    record { reading = reading; writing = writing; source = source; rest = rest; old = old; new = new }
