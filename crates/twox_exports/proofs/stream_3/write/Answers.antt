use Rattle.std.proofs.Common.{refl}
use Rattle.twox_exports.proofs.StreamFacts.{follows_in_range, follows_written}
use Rattle.twox_exports.proofs.stream_3.write.Goals as goal

pub returns-then-has_room-clause-message : goal.returns-then-has_room-clause-message
returns-then-has_room-clause-message g c = λ m held enough.
    let exact = c.keep_few.ensures c.args.secret.now in
    (refl, rw exact (follows_written c.args.secret.now m c.args.input.now c.args.core.now enough c.has_room.ensures.size held))

pub returns-clause-message : goal.returns-clause-message
returns-clause-message g c = λ m held enough.
    let in_range = follows_in_range c.args.secret.now m c.args.core.now enough c.has_room.ensures.size held in
    let done = c.write_far.ensures.done.1 (rw c.in-Ok.ensures.1 in_range) in
    let exact = rw c.in-Ok.ensures.1 at c.write_far.ensures.exact done in
    (done, rw exact (follows_written c.args.secret.now m c.args.input.now c.args.core.now enough c.has_room.ensures.size held))
