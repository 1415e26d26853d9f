use Rattle.xxhsum_program.proofs.Prelude.{arith, waiting}
use Rattle.xxhsum_program.proofs.LineFacts.{comes-last-line, comes-line, comes-long-line, not-at-end}
use Rattle.xxhsum_program.proofs.lines.Lines.next.Goals as goal

pub returns-in-Err-clause-next : goal.returns-in-Err-clause-next
returns-in-Err-clause-next g c = λ from done read.
    let failed = c.in-Err.ensures.reads from done read in
    (waiting c.gather.new.self, failed.0, failed.1)

pub overflow_add-len : goal.overflow_add-len
overflow_add-len g c =
    let stops = rw c.in-Ok-Some.field-0-is at c.in-Ok-Some.ensures in
    omega (arith, stops.found.0)

pub returns-in-Ok-Some-clause-next : goal.returns-in-Ok-Some-clause-next
returns-in-Ok-Some-clause-next g c = λ from done read.
    let stops = rw c.in-Ok-Some.field-0-is at c.in-Ok-Some.ensures in
    comes-long-line g.R.Source from done c.gather.new.self c.take.new.self c.in-Ok-Some.len (omega arith) (omega arith) stops.found c.take.ensures (stops.reads from done read)

pub returns-in-Ok-Some-2-clause-next : goal.returns-in-Ok-Some-2-clause-next
returns-in-Ok-Some-2-clause-next g c = λ from done read.
    let stops = rw c.in-Ok-Some.field-0-is at c.in-Ok-Some.ensures in
    comes-line g.R.Source from done c.gather.new.self c.take-in-Ok-Some-2.new.self c.in-Ok-Some.len (omega arith) (omega arith) stops.found c.take-in-Ok-Some-2.ensures (stops.reads from done read)

pub returns-in_default-clause-next : goal.returns-in_default-clause-next
returns-in_default-clause-next g c = λ from done read.
    let stops = rw c.in-Ok-None.field-0-is at c.in-Ok-None.ensures in
    c.pass_over.ensures from done (stops.reads from done read)

pub returns-in_default-clause-ended : goal.returns-in_default-clause-ended
returns-in_default-clause-ended g c = λ at_end.
    absurd (not-at-end c.gather.new.self (omega arith) (omega arith) (c.gather.ensures.ended at_end).0)

pub returns-in_default-2-clause-next : goal.returns-in_default-2-clause-next
returns-in_default-2-clause-next g c = λ from done read.
    let stops = rw c.in-Ok-None.field-0-is at c.in-Ok-None.ensures in
    comes-last-line g.R.Source from done c.gather.new.self c.take-in_default-2.new.self _ (omega arith) (omega arith) (omega arith) (omega arith) stops.found c.take-in_default-2.ensures (stops.reads from done read)

pub returns-in_default-2-clause-ended : goal.returns-in_default-2-clause-ended
returns-in_default-2-clause-ended g c = λ at_end.
    absurd (not-at-end c.gather.new.self (omega arith) (omega arith) (c.gather.ensures.ended at_end).0)
