use Rattle.twox_plain.proofs.Prelude.{◌*◌, ◌+◌, ◌-◌, ◌/◌, ◌∙◌, ◌≡◌, ◌≤◌, ap, arith, drop, length, length-take-le, refl, take, ℕ}
use Rattle.twox_plain.specs.Core32.{core_after_stripes}
use Rattle.twox_plain.specs.Units.{after_units}
use Rattle.twox_plain.proofs.Core32Facts.{core_after_stripes_part}
use Rattle.twox_plain.proofs.UnitFacts.{rest_next, rest_whole, taken, taken_next}
use Rattle.twox_plain.proofs.xxhash32.Core.write_pairs.Goals as goal

pub each_pair-init : goal.each_pair-init
unfolding core_after_stripes after_units
each_pair-init c =
    let none : length c.args.input.now / 32 - length c.args.input.now / 32 ≡ 0 = omega arith in
    record { rest = rest_whole 32 c.args.input.now; accumulators = rw none refl }

pub each_pair-preserved : goal.each_pair-preserved
each_pair-preserved c =
    let m = c.args.input.now in
    let rest = c.each_pair.rest.now in
    let after = c.in-Some.after.now in
    let held = c.each_pair.invariant in
    let n = taken 32 m rest in
    let unit : length rest ≡ length after + 32 = omega (arith, c.in-Some.ensures.cases.2) in
    let next : taken 32 m after * 2 ≡ n * 2 + 2 = omega (arith, taken_next 32 m rest after (omega arith) unit held.rest.shorter) in
    let whole : 2 * 16 ≤ length c.in-Some.pair.now =
    omega (arith, ap length c.in-Some.ensures.cases.0, length-take-le 32 rest (omega (arith, unit))) in
    let place : n * 32 ≡ n * 2 * 16 = omega arith in
    record {
      rest = rest_next 32 m rest after (omega arith) c.in-Some.ensures.cases.1 unit held.rest;
      accumulators = rw next
          (rw held.accumulators at c.write_pair.ensures
          ∙ core_after_stripes_part c.args.self.now m _ (n * 2) 2 (c.in-Some.ensures.cases.0 ∙ ap (take 32) (held.rest.follows ∙ ap (λ (k : ℕ). drop k m) place)) whole);
    }
