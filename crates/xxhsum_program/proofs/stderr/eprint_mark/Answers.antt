use Rattle.std.proofs.Common.{sym, ◌∙◌}
use Rattle.xxhsum_program.proofs.EprintFacts.{reports-nothing}
use Rattle.xxhsum_program.proofs.stderr.eprint_mark.Goals as goal

pub returns-then-need_escape : goal.returns-then-need_escape
returns-then-need_escape g c = rw (sym c.need_escape.ensures ∙ c.if-need_escape.true) c.eprint.ensures

pub returns-else-need_escape : goal.returns-else-need_escape
returns-else-need_escape g c = rw (sym c.need_escape.ensures ∙ c.if-need_escape.false) (reports-nothing g.E.Sink c.args.err.now)
