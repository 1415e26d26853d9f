-- The progress of block digests.
use Rattle.std.specs.Prelude.{◌≡◌, ℕ, ◌-◌, ◌*◌, ◌/◌, ◌%◌, ◌^◌, min, List, length, drop}
use Rattle.xxh_program.specs.Streams.{FollowsDefault}
use Rattle.xxh_program.specs.declared.program.blocks.CurrentBlock.{CurrentBlock}

-- The bytes m were taken. The hasher has hashed the bytes after the whole blocks, and `count` is the number of these
-- bytes. The current block begins at `offset`, saturating at 2^64 - 1.
pub record HasTaken (b : CurrentBlock) (m : List ℕ) : Type 0 where
  pub size : b.count ≡ length m % b.size
  pub start : b.offset ≡ min (length m / b.size * b.size) (2 ^ 64 - 1)
  pub follows : FollowsDefault b.hasher (drop (length m / b.size * b.size) m)
