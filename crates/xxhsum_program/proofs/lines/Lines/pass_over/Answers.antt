use Rattle.std.proofs.Common.{arith}
use Rattle.xxhsum_program.proofs.LineFacts.{emptied, inside-endless, inside-ends, inside-fails, inside-found, inside-goes-on, inside-new, none-waits}
use Rattle.xxhsum_program.proofs.lines.Lines.pass_over.Goals as goal

pub loop-turn-init : goal.loop-turn-init
loop-turn-init g c = λ from done read.
    inside-new g.R.Source from done c.args.self.now (omega arith) c.requires.long c.requires.unended read

pub refill-requires-clause-unended : goal.refill-requires-clause-unended
refill-requires-clause-unended g c =
    let none = none-waits c.loop-turn.self c.take.new.self (omega arith) (omega arith) c.take.ensures in
    rw none tt

pub overflow_add-len : goal.overflow_add-len
overflow_add-len g c = omega (arith, c.in-Some.ensures.0)

pub loop-turn-preserved : goal.loop-turn-preserved
loop-turn-preserved g c = λ from done read.
    let old = c.loop-turn.self in
    let mid = c.take.new.self in
    let removed = emptied g.R.Source from done c.loop-turn.turn old mid (omega arith) (omega arith) c.take.ensures (c.loop-turn.invariant from done read) in
    inside-goes-on g.R.Source from done c.loop-turn.turn mid c.refill.new.self c.if-self.false (omega arith) (omega arith) removed c.in-Ok.ensures.reads c.in-Ok.ensures.ends c.in_default.ensures

pub returns-then-self : goal.returns-then-self
returns-then-self g c = λ from done read.
    let old = c.loop-turn.self in
    let new = c.take.new.self in
    let removed = emptied g.R.Source from done c.loop-turn.turn old new (omega arith) (omega arith) c.take.ensures (c.loop-turn.invariant from done read) in
    inside-ends g.R.Source from done c.loop-turn.turn new c.take.ensures.4 c.if-self.true (none-waits old new (omega arith) (omega arith) c.take.ensures) removed

pub returns-in-Err : goal.returns-in-Err
returns-in-Err g c = λ from done read.
    let old = c.loop-turn.self in
    let mid = c.take.new.self in
    let removed = emptied g.R.Source from done c.loop-turn.turn old mid (omega arith) (omega arith) c.take.ensures (c.loop-turn.invariant from done read) in
    inside-fails g.R.Source from done c.loop-turn.turn c.in-Err.field-0 mid c.refill.new.self removed c.in-Err.ensures.reads

pub returns-in-Some : goal.returns-in-Some
returns-in-Some g c = λ from done read.
    let old = c.loop-turn.self in
    let mid = c.take.new.self in
    let removed = emptied g.R.Source from done c.loop-turn.turn old mid (omega arith) (omega arith) c.take.ensures (c.loop-turn.invariant from done read) in
    inside-found g.R.Source from done c.loop-turn.turn c.in-Some.len mid c.refill.new.self c.take-in-Some.new.self removed c.in-Ok.ensures.reads c.in-Some.ensures c.take-in-Some.ensures

pub returns : goal.returns
returns g c = λ from done read. inside-endless g.R.Source from done c.loop-turn.turn c.loop-turn.self (omega arith) (c.loop-turn.invariant from done read)
