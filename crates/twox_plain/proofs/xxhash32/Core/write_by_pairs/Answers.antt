use Rattle.std.proofs.Common.{◌≡◌, ◌-◌, ◌*◌, ◌/◌, length, ap, ◌∙◌, arith, length-drop}
use Rattle.twox_plain.specs.Core32.{core_after_stripes}
use Rattle.twox_plain.proofs.Core32Facts.{core_after_stripes_more}
use Rattle.twox_plain.proofs.xxhash32.Core.write_by_pairs.Goals as goal

pub returns-clause-accumulators : goal.returns-clause-accumulators
returns-clause-accumulators c =
    let m = c.args.input.now in
    let later = c.write_pairs-after.result.now in
    let k = length m / 32 * 2 in
    let bytes : length later ≡ length m - k * 16 = ap length c.write_pairs-after.ensures.rest ∙ length-drop (k * 16) m in
    rw c.write_pairs-after.ensures.accumulators at c.write_stripes.ensures.accumulators
    ∙ core_after_stripes_more c.args.self.now m later k (length later / 16) c.write_pairs-after.ensures.rest
    ∙ ap (core_after_stripes c.args.self.now m) (omega (arith, bytes))
