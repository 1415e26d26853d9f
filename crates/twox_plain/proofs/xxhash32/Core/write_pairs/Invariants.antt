use Rattle.std.proofs.Common.{◌≡◌, ◌*◌, length}
use Rattle.twox_plain.specs.Core32.{core_after_stripes}
use Rattle.twox_plain.proofs.UnitFacts.{IsRest, taken}
use Rattle.twox_plain.proofs.xxhash32.Core.write_pairs.Given as goal

abbrev pub invariant-each_pair : goal.invariant-each_pair
invariant-each_pair l = record {
  rest : IsRest 32 l.input l.rest;
  accumulators : l.self ≡ core_after_stripes l.fn.self l.input (taken 32 l.input l.rest * 2);
}

abbrev pub decreases-each_pair : goal.decreases-each_pair
decreases-each_pair l = length l.rest
