use Rattle.twox_plain.proofs.Prelude.{◌*◌, ◌+◌, ◌-◌, ◌/◌, ◌∙◌, ◌≡◌, ◌≤◌, ap, arith, drop, length, length-take-le, refl, take, ℕ}
use Rattle.twox_plain.specs.Core32.{core_after_stripes}
use Rattle.twox_plain.specs.Units.{after_units}
use Rattle.twox_plain.proofs.Core32Facts.{core_after_stripes_part}
use Rattle.twox_plain.proofs.UnitFacts.{rest_next, rest_whole, taken, taken_next}
use Rattle.twox_plain.proofs.xxhash32.Core.write_blocks.Goals as goal

pub each_block-init : goal.each_block-init
unfolding core_after_stripes after_units
each_block-init c =
    let none : length c.args.input.now / 128 - length c.args.input.now / 128 ≡ 0 = omega arith in
    record { rest = rest_whole 128 c.args.input.now; accumulators = rw none refl }

pub each_block-preserved : goal.each_block-preserved
each_block-preserved c =
    let m = c.args.input.now in
    let rest = c.each_block.rest.now in
    let after = c.in-Some.after.now in
    let held = c.each_block.invariant in
    let n = taken 128 m rest in
    let unit : length rest ≡ length after + 128 = omega (arith, c.in-Some.ensures.cases.2) in
    let next : taken 128 m after * 8 ≡ n * 8 + 8 = omega (arith, taken_next 128 m rest after (omega arith) unit held.rest.shorter) in
    let whole : 8 * 16 ≤ length c.in-Some.block.now =
    omega (arith, ap length c.in-Some.ensures.cases.0, length-take-le 128 rest (omega (arith, unit))) in
    let place : n * 128 ≡ n * 8 * 16 = omega arith in
    record {
      rest = rest_next 128 m rest after (omega arith) c.in-Some.ensures.cases.1 unit held.rest;
      accumulators = rw next
          (rw held.accumulators at c.write_block.ensures
          ∙ core_after_stripes_part c.args.self.now m _ (n * 8) 8 (c.in-Some.ensures.cases.0 ∙ ap (take 128) (held.rest.follows ∙ ap (λ (k : ℕ). drop k m) place)) whole);
    }
