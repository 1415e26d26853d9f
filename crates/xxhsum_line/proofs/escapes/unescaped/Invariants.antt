use Rattle.xxhsum_line.proofs.Prelude.{◌≡◌, drop, before, meant_behind, unescaped}
use Rattle.xxhsum_line.proofs.escapes.unescaped.Given as goal

-- Invariant: the bytes so far, followed by the remaining bytes unescaped, are the result
abbrev pub invariant-loop-byte : goal.invariant-loop-byte
invariant-loop-byte l =
    before l.name.items (meant_behind l.is_behind_backslash (drop l.byte-index l.text)) ≡ unescaped l.text
