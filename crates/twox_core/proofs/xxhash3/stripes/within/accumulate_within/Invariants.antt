use Rattle.twox_core.proofs.Prelude.{◌*◌, ◌≡◌, drop, secret_bytes}
use Rattle.twox_core.specs.Ending.{accumulate_block}
use Rattle.twox_core.proofs.xxhash3.stripes.within.accumulate_within.Given as goal

abbrev pub invariant-stripes : goal.invariant-stripes
invariant-stripes g l = l.taken ≡ accumulate_block (drop (8 * l.place) (secret_bytes l.secret)) l.fn.acc l.bytes l.i
