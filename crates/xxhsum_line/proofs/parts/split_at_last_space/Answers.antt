use Rattle.xxhsum_line.proofs.LackFacts.{split_last}
use Rattle.xxhsum_line.proofs.parts.split_at_last_space.Goals as goal

pub returns : goal.returns
returns c = split_last _ c.args.line.now _ c.in_ok-place.ensures.0 c.in_ok-place.ensures.1
