use Rattle.twox_core.proofs.Prelude.{◌-◌, ◌≡◌, arith, false, length, nat_le, nat_tests, refl, true}
use Rattle.twox_core.specs.AfterWrite.{state_after_write}
use Rattle.twox_core.proofs.xxhash3.streaming.stream_counts.StreamCounts.write.Goals as goal

pub returns-then-input-self-clause-exact : goal.returns-then-input-self-clause-exact
unfolding state_after_write
returns-then-input-self-clause-exact g c =
    let test : nat_le (length c.args.input.now) (length c.args.buffer.now - c.args.self.now.buffer_usage) ≡ true = grind (arith, nat_tests) in
    rw (test, c.keep.ensures, c.saturating_add-self.ensures, c.into_u64.ensures) refl

pub returns-then-input-lt-LONG_PIECE_BYTES-clause-exact : goal.returns-then-input-lt-LONG_PIECE_BYTES-clause-exact
unfolding state_after_write
returns-then-input-lt-LONG_PIECE_BYTES-clause-exact g c =
    let test : nat_le (length c.args.input.now) (length c.args.buffer.now - c.args.self.now.buffer_usage) ≡ false = grind (arith, nat_tests) in
    rw (test, c.write_through.ensures.exact, c.saturating_add-self.ensures, c.into_u64.ensures) refl

pub returns-else-input-lt-LONG_PIECE_BYTES-clause-exact : goal.returns-else-input-lt-LONG_PIECE_BYTES-clause-exact
unfolding state_after_write
returns-else-input-lt-LONG_PIECE_BYTES-clause-exact g c =
    let test : nat_le (length c.args.input.now) (length c.args.buffer.now - c.args.self.now.buffer_usage) ≡ false = grind (arith, nat_tests) in
    rw (test, c.write_through-else-input-lt-LONG_PIECE_BYTES.ensures.exact, c.saturating_add-self.ensures, c.into_u64.ensures) refl
