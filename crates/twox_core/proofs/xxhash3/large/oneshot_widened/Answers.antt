use Rattle.twox_core.proofs.Prelude.{◌*◌, ◌-◌, ◌/◌, ◌∙◌, ◌≡◌, ◌≤◌, arith, drop, length, length-drop, length-take-le, no_stripe, secret_bytes, take, take_all}
use Rattle.twox_core.specs.Ending.{accumulators_after, stream_accumulators, last_stripe}
use Rattle.twox_core.proofs.StripeFacts.{after_stripes-take, folded_first}
use Rattle.twox_core.proofs.xxhash3.large.oneshot_widened.Goals as goal

pub returns : goal.returns
unfolding stream_accumulators accumulators_after last_stripe
returns g c =
    let s = secret_bytes c.args.secret in
    let m = c.args.input.now in
    let k = (length m - 1) / 64 in
    let fits : 64 * k ≤ length m = omega arith in
    let width : length (take (64 * k) m) / 64 ≡ k = omega (arith, length-take-le (64 * k) m fits) in
    let taken = rw (width, c.of_default_length.ensures) at c.start_widened-taken.ensures.exact ∙ after_stripes-take s no_stripe m (64 * k) k (omega arith) in
    let accumulators = rw taken at c.accumulators.ensures ∙ (folded_first s m k (omega arith) fits).accumulators in
    let end = c.array_at-last_stripe.ensures ∙ take_all 64 (drop (length m - 64) m) (omega (arith, length-drop (length m - 64) m)) in
    rw (accumulators, end, c.into_u64.ensures) at c.large.ensures
