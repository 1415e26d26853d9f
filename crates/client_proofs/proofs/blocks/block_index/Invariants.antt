use Rattle.std.proofs.Common.{◌≡◌, map, take}
use Rattle.twox_hash.specs.Xxh32.{xxh32}
use Rattle.client_proofs.proofs.blocks.block_index.Given as goal

-- Invariant: the index has the hashes of the blocks so far.
abbrev pub invariant-loop-block : goal.invariant-loop-block
invariant-loop-block g l = l.index.items ≡ map (λ block. xxh32 l.seed block) (take l.block-index l.blocks)
