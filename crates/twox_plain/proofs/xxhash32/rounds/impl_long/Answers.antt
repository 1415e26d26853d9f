use Rattle.twox_plain.proofs.Prelude.{◌%◌, ◌*◌, ◌/◌, ◌∙◌, ◌≡◌, ◌≤◌, Core, ap, arith, length, length-drop, refl, rules, take_all, zero-add}
use Rattle.twox_plain.specs.Core32.{core_of_stripes, core_after_stripes}
use Rattle.twox_plain.proofs.Core32Facts.{core_of_stripes_more}
use Rattle.twox_plain.proofs.Message32.{value_of_message}
use Rattle.twox_plain.proofs.xxhash32.rounds.impl_long.Goals as goal

pub returns : goal.returns
returns g c =
    let m = c.args.input.now in
    let n = length m / 16 in
    let taken : c.write_many-rest.new.self ≡ core_of_stripes c.args.seed m n =
    c.write_many-rest.ensures.accumulators ∙ ap (λ (x : Core). core_after_stripes x m n) (c.new-core.ensures m) ∙ core_of_stripes_more c.args.seed m m 0 n refl ∙ ap (core_of_stripes c.args.seed m) (zero-add n) in
    let left : length c.write_many-rest.result.now ≤ length m % 16 = omega (arith, ap length c.write_many-rest.ensures.rest, length-drop (length m / 16 * 16) m) in
    let cut = take_all (length m % 16) c.write_many-rest.result.now left ∙ c.write_many-rest.ensures.rest in
    c.finish_with.ensures ∙ value_of_message c.args.seed m _ _ _ (search rules) taken cut
