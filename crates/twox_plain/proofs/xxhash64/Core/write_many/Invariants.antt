use Rattle.std.proofs.Common.{◌≡◌, length}
use Rattle.twox_plain.specs.Core64.{core_after_stripes}
use Rattle.twox_plain.proofs.UnitFacts.{IsRest, taken}
use Rattle.twox_plain.proofs.xxhash64.Core.write_many.Given as goal

abbrev pub invariant-stripes : goal.invariant-stripes
invariant-stripes l = record {
  rest : IsRest 32 l.input l.rest;
  accumulators : l.self ≡ core_after_stripes l.fn.self l.input (taken 32 l.input l.rest);
}

abbrev pub decreases-stripes : goal.decreases-stripes
decreases-stripes l = length l.rest
