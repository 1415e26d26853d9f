use Rattle.twox_core.proofs.ShortBytes.{word_of_ends}
use Rattle.twox_core.proofs.xxhash3.streaming.short_bytes.word_of.Goals as goal

pub returns : goal.returns
returns c = rw (c.into_u64-low.ensures, c.into_u64-high.ensures, c.u32_at.ensures, c.u32_at-2.ensures) (word_of_ends c.args.bytes.now c.requires.least c.requires.most c.type_inv.bytes)
