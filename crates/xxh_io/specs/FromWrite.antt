-- What clauses read of a standard writer as a sink.
use Rattle.std.specs.Prelude.{Bool}
use Rattle.xxh_io.specs.declared.from_write.FromWrite.{FromWrite}

-- the writer
abbrev pub writer_of : {W : Type 0} → FromWrite W → W
writer_of s = s.inner

-- a write has failed
abbrev pub has_write_failed : {W : Type 0} → FromWrite W → Bool
has_write_failed s = s.failed
