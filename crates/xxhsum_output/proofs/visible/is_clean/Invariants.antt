use Rattle.std.proofs.Common.{◌≡◌, drop}
use Rattle.xxhsum_output.specs.Shown.{is_clean}
use Rattle.xxhsum_output.proofs.visible.is_clean.Given as goal

-- Invariant: the bytes have no control character if and only if the remaining bytes have none
abbrev pub invariant-loop-byte : goal.invariant-loop-byte
invariant-loop-byte l = is_clean l.before (drop l.byte-index l.bytes) ≡ is_clean 0 l.bytes
