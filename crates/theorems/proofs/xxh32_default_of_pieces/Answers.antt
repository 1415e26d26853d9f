use Rattle.std.proofs.Common.{[], Some, ap, sym}
use Rattle.theorems.proofs.xxh32_default_of_pieces.Goals as goal

pub returns : goal.returns
returns c = c.digests.ensures (Some 0) [] (ap Some (sym c.default.ensures.seed), c.default.ensures.empty)
