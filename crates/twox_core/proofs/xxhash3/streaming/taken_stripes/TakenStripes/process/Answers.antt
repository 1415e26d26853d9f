use Rattle.std.proofs.Common.{refl}
use Rattle.twox_core.specs.AfterWrite.{after_taking}
use Rattle.twox_core.proofs.xxhash3.streaming.taken_stripes.TakenStripes.process.Goals as goal

pub returns-clause-exact : goal.returns-clause-exact
unfolding after_taking
returns-clause-exact g c = rw (c.process_piece.ensures.exact, c.saturating_add-self.ensures, c.into_u64.ensures) refl
