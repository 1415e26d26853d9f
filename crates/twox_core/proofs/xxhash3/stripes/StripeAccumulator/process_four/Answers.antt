use Rattle.twox_core.proofs.Prelude.{◌*◌, ◌+◌, ◌≡◌, arith, drop, secret_bytes, stripes_of, sym}
use Rattle.twox_core.proofs.BlockFacts.{stripes_within, stripes_to_end}
use Rattle.twox_core.proofs.EndingFacts.{four_under_key}
use Rattle.twox_core.proofs.xxhash3.stripes.StripeAccumulator.process_four.Goals as goal

pub returns-then-self-eq-STRIPES_IN_BLOCK-clause-exact : goal.returns-then-self-eq-STRIPES_IN_BLOCK-clause-exact
returns-then-self-eq-STRIPES_IN_BLOCK-clause-exact g c =
    let s = secret_bytes c.args.secret in
    let a = c.args.self.now in
    let full : a.current_stripe + 4 ≡ stripes_of s = omega arith in
    rw (c.round_scramble.ensures, c.last_stripe.ensures, c.accumulate_four_stripes.ensures, four_under_key (drop (8 * a.current_stripe) s) a.accumulator c.args.stripes.now _ c.four_stripes.ensures)
    (sym (stripes_to_end s c.args.stripes.now a 3 full))

pub returns-else-self-eq-STRIPES_IN_BLOCK-clause-exact : goal.returns-else-self-eq-STRIPES_IN_BLOCK-clause-exact
returns-else-self-eq-STRIPES_IN_BLOCK-clause-exact g c =
    let s = secret_bytes c.args.secret in
    let a = c.args.self.now in
    rw (c.accumulate_four_stripes.ensures, four_under_key (drop (8 * a.current_stripe) s) a.accumulator c.args.stripes.now _ c.four_stripes.ensures)
    (sym (stripes_within s c.args.stripes.now a 4 (omega arith)))
