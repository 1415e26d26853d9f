use Rattle.xxhsum_audit.proofs.Prelude.{◌≡◌, drop, has_separator}
use Rattle.xxhsum_audit.proofs.text.has_separator.Given as goal

abbrev pub invariant-loop-byte : goal.invariant-loop-byte
invariant-loop-byte l = has_separator 0 l.name ≡ has_separator l.before (drop l.byte-index l.name)
