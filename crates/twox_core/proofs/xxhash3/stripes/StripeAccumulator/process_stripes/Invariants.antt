use Rattle.twox_core.proofs.Prelude.{◌<◌, ◌≡◌, secret_bytes, stripes_of}
use Rattle.twox_core.specs.Stripes.{after_stripes}
use Rattle.twox_core.proofs.xxhash3.stripes.StripeAccumulator.process_stripes.Given as goal

abbrev pub invariant-stripes : goal.invariant-stripes
invariant-stripes g l = record {
  exact : l.taken ≡ after_stripes (secret_bytes l.secret) l.fn.self l.bytes l.stripe-index;
  place : l.taken.current_stripe < stripes_of (secret_bytes l.secret);
}
