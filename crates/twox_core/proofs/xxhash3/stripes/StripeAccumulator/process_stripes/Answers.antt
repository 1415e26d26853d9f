use Rattle.twox_core.proofs.Prelude.{◌*◌, ◌/◌, ◌∙◌, ◌≡◌, arith, first_chunks_at, length, refl, secret_bytes}
use Rattle.twox_core.specs.Stripes.{after_stripes}
use Rattle.twox_core.proofs.StripeFacts.{after_stripes-next}
use Rattle.twox_core.proofs.xxhash3.stripes.StripeAccumulator.process_stripes.Goals as goal

pub stripes-init : goal.stripes-init
unfolding after_stripes
stripes-init g c = record { exact = refl; place = c.requires }

pub stripes-preserved : goal.stripes-preserved
stripes-preserved g c =
    let s = secret_bytes c.args.secret in
    let xs = c.args.bytes.now in
    let i = c.stripes.stripe-index in
    let place : i * 64 ≡ 64 * i = omega arith in
    record {
      exact =
          rw c.stripes.invariant.exact at c.process_stripe.ensures.exact
          ∙ after_stripes-next s c.args.self.now xs _ i (rw c.bp_as_chunks.ensures.chunks (first_chunks_at 64 (length xs / 64) xs i _ (omega arith) ∙ rw place refl));
      place = rw c.n_stripes-n_stripes.ensures at c.process_stripe.ensures.place;
    }
