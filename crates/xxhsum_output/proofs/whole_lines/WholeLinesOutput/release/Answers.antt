use Rattle.std.proofs.Common.{◌∙◌, sym}
use Rattle.xxhsum_output.proofs.WholeLinesFacts.{released}
use Rattle.xxhsum_output.proofs.whole_lines.WholeLinesOutput.release.Goals as goal

pub returns-clause-takes_nothing : goal.returns-clause-takes_nothing
returns-clause-takes_nothing g c =
    let write = c.write_waiting in
    let works = sym c.failed.ensures ∙ c.if-failed.false in
    released g.W.Sink c.args.self.now write.new.self write.result works write.ensures.written write.ensures.empty write.ensures.refused write.ensures.failed
