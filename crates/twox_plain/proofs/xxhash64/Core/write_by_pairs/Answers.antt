use Rattle.std.proofs.Common.{◌≡◌, ◌-◌, ◌*◌, ◌/◌, length, ap, ◌∙◌, arith, length-drop}
use Rattle.twox_plain.specs.Core64.{core_after_stripes}
use Rattle.twox_plain.proofs.Core64Facts.{core_after_stripes_more}
use Rattle.twox_plain.proofs.xxhash64.Core.write_by_pairs.Goals as goal

pub returns-clause-accumulators : goal.returns-clause-accumulators
returns-clause-accumulators c =
    let m = c.args.input.now in
    let later = c.write_pairs-after.result.now in
    let k = length m / 64 * 2 in
    let bytes : length later ≡ length m - k * 32 = ap length c.write_pairs-after.ensures.rest ∙ length-drop (k * 32) m in
    rw c.write_pairs-after.ensures.accumulators at c.write_many.ensures.accumulators
    ∙ core_after_stripes_more c.args.self.now m later k (length later / 32) c.write_pairs-after.ensures.rest
    ∙ ap (core_after_stripes c.args.self.now m) (omega (arith, bytes))
