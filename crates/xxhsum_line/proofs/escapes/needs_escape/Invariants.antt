use Rattle.xxhsum_line.proofs.Prelude.{◌≡◌, drop, needs_escape}
use Rattle.xxhsum_line.proofs.escapes.needs_escape.Given as goal

-- Invariant: the name needs an escape if and only if its remaining bytes do
abbrev pub invariant-loop-byte : goal.invariant-loop-byte
invariant-loop-byte l = needs_escape (drop l.byte-index l.name) ≡ needs_escape l.name
