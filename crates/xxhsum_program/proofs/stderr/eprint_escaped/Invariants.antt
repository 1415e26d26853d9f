use Rattle.xxhsum_program.proofs.Prelude.{escaped, take}
use Rattle.xxhsum_program.specs.Eprints.{Eprints}
use Rattle.xxhsum_program.proofs.stderr.eprint_escaped.Given as goal

-- Invariant: the escaped form of the bytes so far is written
abbrev pub invariant-loop-byte : goal.invariant-loop-byte
invariant-loop-byte g l = Eprints g.E.Sink (escaped (take l.byte-index l.text)) l.initial.err l.err
