use Rattle.twox_core.proofs.Prelude.{◌%◌, ◌*◌, ◌<◌, ◌≡◌, secret_bytes}
use Rattle.twox_core.specs.Stripes.{after_stripes}
use Rattle.twox_core.proofs.xxhash3.stripes.StripeAccumulator.process_fours.Given as goal

abbrev pub invariant-fours : goal.invariant-fours
invariant-fours g l = record {
  exact : l.taken ≡ after_stripes (secret_bytes l.secret) l.fn.self l.bytes (4 * l.four-index);
  place : l.taken.current_stripe < 16;
  fourth : l.taken.current_stripe % 4 ≡ 0;
}
