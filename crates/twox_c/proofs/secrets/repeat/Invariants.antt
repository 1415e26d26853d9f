use Rattle.std.proofs.Common.{◌≡◌, ◌++◌, drop}
use Rattle.twox_c.specs.GeneratedSecret.{repeated}
use Rattle.twox_c.proofs.secrets.repeat.Given as goal

abbrev pub invariant-loop-i : goal.invariant-loop-i
invariant-loop-i l = l.secret ≡ repeated l.fn.source l.i ++ drop l.i l.initial.secret
