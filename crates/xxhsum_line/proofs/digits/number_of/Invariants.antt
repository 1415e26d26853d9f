use Rattle.xxhsum_line.proofs.Prelude.{◌≡◌, ◌<◌, ◌^◌, drop, number_of, number_after}
use Rattle.xxhsum_line.proofs.digits.number_of.Given as goal

-- Invariant: the number so far fits its digits, and the remaining digits complete it to the result
abbrev pub invariant-loop-byte : goal.invariant-loop-byte
invariant-loop-byte l = record {
  fits : l.number < 16 ^ l.byte-index;
  rest : number_after l.number (drop l.byte-index l.digits) ≡ number_of l.digits;
}
