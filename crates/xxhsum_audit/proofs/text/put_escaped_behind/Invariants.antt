use Rattle.xxhsum_audit.proofs.Prelude.{◌≡◌, ◌++◌, drop, escaped_behind}
use Rattle.xxhsum_audit.proofs.text.put_escaped_behind.Given as goal

-- Invariant: the bytes so far, followed by the escaped rest, are the escaped name
abbrev pub invariant-loop-byte : goal.invariant-loop-byte
invariant-loop-byte l =
    l.line.items ++ escaped_behind l.before (drop l.byte-index l.name) ≡ l.initial.line.items ++ escaped_behind 0 l.name
