use Rattle.xxhsum_line.proofs.Prelude.{◌≡◌, drop, is_escaped}
use Rattle.xxhsum_line.proofs.escapes.is_escaped.Given as goal

-- Invariant: the line is escaped if and only if its remaining bytes are
abbrev pub invariant-loop-byte : goal.invariant-loop-byte
invariant-loop-byte l = is_escaped (drop l.byte-index l.line) ≡ is_escaped l.line
