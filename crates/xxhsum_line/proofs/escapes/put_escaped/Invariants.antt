use Rattle.xxhsum_line.proofs.Prelude.{◌≡◌, ◌++◌, take, escaped}
use Rattle.xxhsum_line.proofs.escapes.put_escaped.Given as goal

abbrev pub invariant-loop-byte : goal.invariant-loop-byte
invariant-loop-byte l = l.line.items ≡ l.fn.line.items ++ escaped (take l.byte-index l.name)
