use Rattle.std.proofs.Common.{◌≡◌}
use Rattle.twox_plain.specs.Core32.{core_after_stripes}
use Rattle.twox_plain.proofs.xxhash32.Core.write_block.Given as goal

abbrev pub invariant-stripes : goal.invariant-stripes
invariant-stripes l = l.self ≡ core_after_stripes l.fn.self l.block l.i
