use Rattle.xxhsum_line.proofs.LackFacts.{split_first}
use Rattle.xxhsum_line.proofs.parts.split_at_first.Goals as goal

pub returns : goal.returns
returns c = split_first _ c.args.bytes.now _ c.in_ok-place.ensures.0 c.in_ok-place.ensures.1
