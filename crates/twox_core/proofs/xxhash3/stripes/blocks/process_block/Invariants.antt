use Rattle.twox_core.proofs.Prelude.{◌*◌, ◌≡◌, secret_bytes}
use Rattle.twox_core.specs.Ending.{accumulate_block}
use Rattle.twox_core.proofs.xxhash3.stripes.blocks.process_block.Given as goal

abbrev pub invariant-fours : goal.invariant-fours
invariant-fours g l = l.taken ≡ accumulate_block (secret_bytes l.secret) l.fn.acc l.block (4 * l.i)
