use Rattle.std.proofs.Common.{◌≡◌}
use Rattle.twox_c.specs.GeneratedSecret.{groups_xored}
use Rattle.twox_c.proofs.secrets.xor_groups.Given as goal

abbrev pub invariant-loop-k : goal.invariant-loop-k
invariant-loop-k l = l.secret ≡ groups_xored l.fn.bytes l.initial.secret l.k
