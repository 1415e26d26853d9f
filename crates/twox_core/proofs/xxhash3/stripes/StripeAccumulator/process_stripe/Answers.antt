use Rattle.twox_core.proofs.Prelude.{◌+◌, ◌==◌, ◌≡◌, arith, false, nat_tests, refl, secret_bytes, stripes_of, true}
use Rattle.twox_core.specs.Stripes.{after_stripe}
use Rattle.twox_core.proofs.xxhash3.stripes.StripeAccumulator.process_stripe.Goals as goal

pub returns-then-self-n_stripes-clause-exact : goal.returns-then-self-n_stripes-clause-exact
unfolding after_stripe
returns-then-self-n_stripes-clause-exact g c =
    let test : (c.args.self.now.current_stripe + 1 == stripes_of (secret_bytes c.args.secret)) ≡ true = grind (arith, nat_tests) in
    rw (test, c.round_scramble.ensures, c.accumulate.ensures, c.stripe.ensures, c.last_stripe.ensures) refl

pub returns-else-self-n_stripes-clause-exact : goal.returns-else-self-n_stripes-clause-exact
unfolding after_stripe
returns-else-self-n_stripes-clause-exact g c =
    let test : (c.args.self.now.current_stripe + 1 == stripes_of (secret_bytes c.args.secret)) ≡ false = grind (arith, nat_tests) in
    rw (test, c.accumulate.ensures, c.stripe.ensures) refl
