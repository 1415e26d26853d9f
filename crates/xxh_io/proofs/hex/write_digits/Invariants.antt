use Rattle.std.proofs.Common.{◌≡◌, ◌++◌, length, drop}
use Rattle.xxh_io.specs.Hex.{hex_digits}
use Rattle.xxh_io.proofs.hex.write_digits.Given as goal

-- Invariant: the remaining digits, followed by the digits written so far, are all the digits
abbrev pub invariant-loop-i : goal.invariant-loop-i
invariant-loop-i l = hex_digits l.i l.rest ++ drop l.i l.out ≡ hex_digits (length l.fn.out) l.fn.value
