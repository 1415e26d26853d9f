-- Standard output and standard error at one time.
use Rattle.std.specs.Borrow.{Fml, Lends, MutBor, RattleType}
use Rattle.xxhsum_program.specs.contracts.streams.Streams.{the_row}
use Rattle.xxhsum_program.specs.declared.streams.Streams.{Streams}

abbrev pub streams_of : {W E : Type 0} → W → E → Streams W E
streams_of out err = record { out = out; err = err }

-- Standard error.
abbrev pub err_of : {W E : Type 0} → Streams W E → E
err_of streams = streams.err

module _ (W E : RattleType) where
  -- When the borrow of standard error ends, its last value is the stream's, and standard output is as it was.
  abbrev pub LendsMessages : MutBor (Streams W.Denot E.Denot) → MutBor E.Denot → Fml
  LendsMessages streams messages = Lends (the_row W E) E streams messages (streams_of streams.now.out)
