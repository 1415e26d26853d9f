use Rattle.twox_plain.proofs.Prelude.{◌%◌, ◌*◌, ◌/◌, ◌∙◌, ◌≡◌, ◌≤◌, ap, arith, length, length-drop, refl, rules, take_all, zero-add}
use Rattle.twox_plain.specs.Core64.{core_of_stripes, core_after_stripes}
use Rattle.twox_plain.specs.declared.xxhash64.Core.{Core}
use Rattle.twox_plain.proofs.Core64Facts.{core_of_stripes_more}
use Rattle.twox_plain.proofs.Message64.{value_of_message}
use Rattle.twox_plain.proofs.xxhash64.rounds.impl_long.Goals as goal

pub returns : goal.returns
returns c =
    let m = c.args.input.now in
    let n = length m / 32 in
    let taken : c.write_many-rest.new.self ≡ core_of_stripes c.args.seed m n =
    c.write_many-rest.ensures.accumulators ∙ ap (λ (x : Core). core_after_stripes x m n) (c.new-core.ensures m) ∙ core_of_stripes_more c.args.seed m m 0 n refl ∙ ap (core_of_stripes c.args.seed m) (zero-add n) in
    let left : length c.write_many-rest.result.now ≤ length m % 32 = omega (arith, ap length c.write_many-rest.ensures.rest, length-drop (length m / 32 * 32) m) in
    let cut = take_all (length m % 32) c.write_many-rest.result.now left ∙ c.write_many-rest.ensures.rest in
    c.finish_with.ensures ∙ value_of_message c.args.seed m _ _ _ (search rules) taken cut
