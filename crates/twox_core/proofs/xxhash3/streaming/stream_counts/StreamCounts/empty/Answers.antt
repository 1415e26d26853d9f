use Rattle.twox_core.proofs.Prelude.{arith, length-take-le, refl}
use Rattle.twox_core.proofs.xxhash3.streaming.stream_counts.StreamCounts.empty.Goals as goal

pub returns-clause-exact : goal.returns-clause-exact
returns-clause-exact g c =
    let now = c.args.self.now in
    rw (rw (length-take-le now.buffer_usage c.args.buffer.now (omega arith)) at c.process.ensures.exact) refl
