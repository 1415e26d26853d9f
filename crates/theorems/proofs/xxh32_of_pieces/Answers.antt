use Rattle.std.proofs.Common.{[], Some, ap, sym}
use Rattle.theorems.proofs.xxh32_of_pieces.Goals as goal

pub returns : goal.returns
returns c = c.digests.ensures (Some c.args.seed) [] (ap Some (sym c.with_seed.ensures.seed), c.with_seed.ensures.empty)
