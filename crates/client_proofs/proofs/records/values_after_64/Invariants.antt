use Rattle.twox_hash.specs.Record64.{AgreeInUse}
use Rattle.client_proofs.proofs.records.values_after_64.Given as goal

abbrev pub invariant-loop-piece : goal.invariant-loop-piece
invariant-loop-piece l = AgreeInUse l.initial.a l.initial.b → AgreeInUse l.a l.b
