use Rattle.twox_core.proofs.ShortBytes.{below_with_byte, first_word_with_byte}
use Rattle.twox_core.proofs.xxhash3.streaming.short_bytes.with_byte.Goals as goal

pub overflow_add-result : goal.overflow_add-result
overflow_add-result c = rw c.into_u64.ensures (below_with_byte c.u64_at.result c.args.n c.args.byte c.requires.within c.ranges.byte.fits)

pub returns : goal.returns
returns c = rw (c.into_u64.ensures, c.u64_at.ensures) (first_word_with_byte c.args.bytes.now c.args.n c.args.byte c.requires.whole c.type_inv.bytes c.requires.within c.ranges.byte.fits)
