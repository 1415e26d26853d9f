use Rattle.std.proofs.Common.{take, [], ◌∷◌, refl, append-nil}
use Rattle.xxhsum_output.specs.Messages.{holder_of}
use Rattle.xxhsum_output.proofs.MessagesFacts.{part_took}
use Rattle.xxhsum_output.proofs.messages.MessagesSink.write.Goals as goal

pub returns-then-ends_with-clause-piece : goal.returns-then-ends_with-clause-piece
returns-then-ends_with-clause-piece g c =
    part_took g.W.Sink (take c.in_ok-count.count c.args.bytes.now) (holder_of c.args.self.now) c.write.new.self c.release.new.self
    c.in_ok-count.ensures.piece c.release.ensures.takes_nothing

pub returns-else-ends_with-clause-piece : goal.returns-else-ends_with-clause-piece
returns-else-ends_with-clause-piece g c =
    let part = take c.in_ok-count.count c.args.bytes.now in
    (part ∷ [], (c.write.new.self, c.in_ok-count.ensures.piece, refl), append-nil part)
