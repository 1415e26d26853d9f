use Rattle.twox_core.proofs.Prelude.{◌*◌, ◌-◌, ◌/◌, ◌∙◌, ◌≡◌, ◌≤◌, arith, drop, length, length-drop, length-take-le, mul-div-le, no_stripe, secret_bytes, stripes_of, take, take_all}
use Rattle.twox_core.specs.Ending.{accumulators_after, stripes_before, block_accumulators, last_block, last_stripe}
use Rattle.twox_core.proofs.StripeFacts.{after_stripes-take, folded_first}
use Rattle.twox_core.proofs.xxhash3.large.Algorithm.oneshot_of.Goals as goal

pub returns : goal.returns
unfolding block_accumulators accumulators_after last_block last_stripe
returns g c =
    let s = secret_bytes c.args.secret in
    let m = c.args.input.now in
    let k = stripes_before s m in
    let fits : 64 * k ≤ length m = omega (arith, mul-div-le (length m - 1) (64 * stripes_of s)) in
    let count : c.stripes_before_last_block-count.result ≡ k = rw c.n_stripes.ensures at c.stripes_before_last_block-count.ensures in
    let width : length (take (64 * k) m) / 64 ≡ k = omega (arith, length-take-le (64 * k) m fits) in
    let front = rw count at c.split_at.ensures.front in
    let taken = rw (front, width, c.new-stripes.ensures) at c.process_oneshot.ensures.exact ∙ after_stripes-take s no_stripe m (64 * k) k (omega arith) in
    let accumulators = rw taken at c.accumulators.ensures ∙ (folded_first s m k (omega arith) fits).accumulators in
    let block = rw count at c.split_at.ensures.back in
    let end = c.array_at.ensures ∙ take_all 64 (drop (length m - 64) m) (omega (arith, length-drop (length m - 64) m)) in
    rw (accumulators, block, end, c.into_u64.ensures) at c.large.ensures
