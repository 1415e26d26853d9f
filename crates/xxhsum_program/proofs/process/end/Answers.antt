use Rattle.xxhsum_program.proofs.process.end.Goals as goal

pub returns : goal.returns
returns g c =
    (c.finish-ended.ensures.prints, c.finish-ended.ensures.written, rw (c.messages.ensures.value, c.finish-ended.ensures.ended) at c.conclude.ensures.reports, rw c.finish-ended.ensures.ended at c.conclude.ensures.status)
