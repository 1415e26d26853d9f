use Rattle.xxhsum_program.proofs.ProgressFacts.{line-between}
use Rattle.xxhsum_program.proofs.progress.show_between.Goals as goal

pub returns-then-before-count : goal.returns-then-before-count
returns-then-before-count g c =
    rw (line-between c.args.size c.args.millis c.args.before c.args.count c.if-before-count.true)
    (rw (c.append.ensures.bytes, c.put_left.ensures.bytes, c.put_rate.ensures.bytes, c.rate_of-rate.ensures) at c.eprint_once.ensures)
