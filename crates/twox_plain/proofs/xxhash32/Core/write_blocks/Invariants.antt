use Rattle.std.proofs.Common.{◌≡◌, ◌*◌, length}
use Rattle.twox_plain.specs.Core32.{core_after_stripes}
use Rattle.twox_plain.proofs.UnitFacts.{IsRest, taken}
use Rattle.twox_plain.proofs.xxhash32.Core.write_blocks.Given as goal

abbrev pub invariant-each_block : goal.invariant-each_block
invariant-each_block l = record {
  rest : IsRest 128 l.input l.rest;
  accumulators : l.self ≡ core_after_stripes l.fn.self l.input (taken 128 l.input l.rest * 8);
}

abbrev pub decreases-each_block : goal.decreases-each_block
decreases-each_block l = length l.rest
