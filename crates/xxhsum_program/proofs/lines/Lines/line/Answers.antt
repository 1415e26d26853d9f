use Rattle.xxhsum_program.proofs.lines.Lines.line.Goals as goal

pub returns-then-self : goal.returns-then-self
returns-then-self g c = λ line held. rw c.if-self.true at held

pub returns : goal.returns
returns g c = λ line held.
    let is = rw c.if-self.false at held in
    (is.0, is.1)
