use Rattle.twox_core.proofs.Prelude.{◌*◌, ◌≡◌, secret_bytes}
use Rattle.twox_core.specs.Stripes.{at_start, after_stripes}
use Rattle.twox_core.proofs.xxhash3.stripes.blocks.process_blocks.Given as goal

abbrev pub invariant-each : goal.invariant-each
invariant-each g l = at_start l.taken ≡ after_stripes (secret_bytes l.secret) (at_start l.fn.acc) l.bytes (16 * l.i)
