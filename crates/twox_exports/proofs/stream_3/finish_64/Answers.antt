use Rattle.std.proofs.Common.{arith, refl}
use Rattle.twox_exports.proofs.StreamFacts.{follows_in_range, finished_64}
use Rattle.twox_exports.proofs.stream_3.finish_64.Goals as goal

-- A state that follows a list is in range, so it isn't refused.
pub returns-then-not-is_in_range-clause-message : goal.returns-then-not-is_in_range-clause-message
returns-then-not-is_in_range-clause-message g c = λ m held enough.
    let in_range = follows_in_range c.args.secret.now m c.args.core.now enough c.is_in_range.ensures.size held in
    absurd (grind (arith, c.if-not-is_in_range.true, c.is_in_range.ensures.in_range.1 (rw c.in-Ok.ensures.1 in_range)))

pub returns-clause-message : goal.returns-clause-message
returns-clause-message g c = λ m held enough.
    let exact = rw c.in-Ok.ensures.1 at c.finish.ensures.exact in
    (refl, finished_64 c.args.secret.now m c.args.core.now c.args.seed _ enough c.is_in_range.ensures.size held exact)

pub returns-clause-exact : goal.returns-clause-exact
returns-clause-exact g c = λ done. rw c.in-Ok.ensures.1 at c.finish.ensures.exact
