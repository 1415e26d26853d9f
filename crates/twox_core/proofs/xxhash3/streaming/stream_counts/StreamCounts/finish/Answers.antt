use Rattle.twox_core.proofs.Prelude.{◌*◌, ◌/◌, ◌∙◌, ◌≡◌, arith, false, length, length-take-le, nat_le, nat_tests, secret_bytes, true}
use Rattle.twox_core.specs.AfterWrite.{state_over}
use Rattle.twox_core.specs.Finish.{buffered_bytes, stripes_left, end_accumulators, end_block, state_finish}
use Rattle.twox_core.proofs.StripeFacts.{after_stripes-take}
use Rattle.twox_core.proofs.xxhash3.streaming.stream_counts.StreamCounts.finish.Goals as goal

pub returns-then-self-into_u64-clause-exact : goal.returns-then-self-into_u64-clause-exact
unfolding state_finish
returns-then-self-into_u64-clause-exact g c =
    let test : nat_le c.args.self.now.total_bytes 240 ≡ true = grind (arith, nat_tests) in
    rw test c.finish_short.ensures.exact

pub returns-clause-exact : goal.returns-clause-exact
unfolding state_finish end_accumulators end_block
returns-clause-exact g c =
    let s = secret_bytes c.args.secret in
    let now = state_over c.args.self.now c.args.buffer.now in
    let n = stripes_left now in
    let test : nat_le now.counts.total_bytes 240 ≡ false = grind (arith, nat_tests) in
    let width = length-take-le now.counts.buffer_usage now.buffer (omega arith) in
    let number : length c.split_at.result.0.now / 64 ≡ n = omega (arith, length-take-le (64 * n) (buffered_bytes now) (omega arith)) in
    let taken = rw (number, c.split_at.ensures.front) at c.process_stripes.ensures.exact ∙ after_stripes-take s now.counts.taken.stripes (buffered_bytes now) (64 * n) n (omega arith) in
    let accumulators = rw taken at c.accumulators.ensures in
    rw test (rw (accumulators, c.split_at.ensures.back, c.last_stripe-last_stripe.ensures) at c.large.ensures)
