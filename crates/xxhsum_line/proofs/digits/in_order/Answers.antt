use Rattle.xxhsum_line.proofs.Prelude.{arith}
use Rattle.xxhsum_line.proofs.ShownFacts.{byte_fits}
use Rattle.xxhsum_line.proofs.digits.in_order.Goals as goal

pub overflow_mul-reversed : goal.overflow_mul-reversed
overflow_mul-reversed c = let fits = byte_fits _ _ _ c.loop-done.left c.args.value (omega arith) (omega arith) c.loop-done.invariant in omega arith
