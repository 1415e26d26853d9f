use Rattle.std.proofs.Common.{◌≡◌, ◌+◌, ◌-◌, ◌/◌, length, take, refl, ap, ◌∙◌, arith}
use Rattle.twox_plain.specs.Core64.{core_after_stripes}
use Rattle.twox_plain.specs.Units.{after_units}
use Rattle.twox_plain.proofs.Core64Facts.{core_after_stripes_next}
use Rattle.twox_plain.proofs.UnitFacts.{rest_next, rest_whole, taken, taken_next}
use Rattle.twox_plain.proofs.xxhash64.Core.write_many.Goals as goal

pub stripes-init : goal.stripes-init
unfolding core_after_stripes after_units
stripes-init c =
    let none : length c.args.input.now / 32 - length c.args.input.now / 32 ≡ 0 = omega arith in
    record { rest = rest_whole 32 c.args.input.now; accumulators = rw none refl }

pub stripes-preserved : goal.stripes-preserved
stripes-preserved c =
    let m = c.args.input.now in
    let rest = c.stripes.rest.now in
    let after = c.in-Some.after.now in
    let held = c.stripes.invariant in
    let unit : length rest ≡ length after + 32 = omega (arith, c.in-Some.ensures.cases.2) in
    record {
      rest = rest_next 32 m rest after (omega arith) c.in-Some.ensures.cases.1 unit held.rest;
      accumulators = rw (taken_next 32 m rest after (omega arith) unit held.rest.shorter)
          (rw held.accumulators at c.write.ensures
          ∙ core_after_stripes_next c.args.self.now m _ (taken 32 m rest) (c.in-Some.ensures.cases.0 ∙ ap (take 32) held.rest.follows));
    }
