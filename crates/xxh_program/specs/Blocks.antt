-- The digest lines of the blocks of a list of bytes.
use Rattle.std.proofs.Common.{zero, suc, ℕ, ◌+◌, ◌-◌, ◌*◌, ◌/◌, ◌%◌, ◌^◌, min, List, [], ◌++◌, length, slice_range}
use Rattle.std.specs.Int.{div_ceil}
use Rattle.twox_hash.specs.Secret.{default_secret}
use Rattle.twox_hash.specs.Value.{xxh3_128}
pub use Rattle.xxh_io.specs.Hex.{offset_line}

-- The bytes of the block c: from c * block to (c + 1) * block, or to the end of m.
abbrev pub block_bytes : ℕ → List ℕ → ℕ → List ℕ
block_bytes block m c = slice_range m (c * block) (min ((c + 1) * block) (length m))

-- The line of the block c: its offset, saturating at 2^64 - 1, and XXH3 128-bit of its bytes under the seed 0 and the
-- default secret.
abbrev pub block_line : ℕ → List ℕ → ℕ → List ℕ
block_line block m c =
    offset_line (min (c * block) (2 ^ 64 - 1)) (xxh3_128 0 default_secret (block_bytes block m c))

-- The lines of `count` blocks, from the block `first` on.
abbrev pub lines_from : ℕ → List ℕ → ℕ → ℕ → List ℕ
lines_from block m first zero = []
lines_from block m first (suc count) =
    lines_from block m first count ++ block_line block m (first + count)

-- The lines of all blocks c with c * block < length m. Their number is length m / block, rounded up.
abbrev pub block_lines : ℕ → List ℕ → List ℕ
block_lines block m = lines_from block m 0 (div_ceil (length m) block)

-- The lines of the whole blocks of m.
abbrev pub whole_block_lines : ℕ → List ℕ → List ℕ
whole_block_lines block m = lines_from block m 0 (length m / block)

-- The lines of the blocks that become whole if d is appended to m.
abbrev pub added_lines : ℕ → List ℕ → List ℕ → List ℕ
added_lines block m d =
    lines_from block (m ++ d) (length m / block) (length (m ++ d) / block - length m / block)

-- The line of the short last block, if there is one.
abbrev pub last_lines : ℕ → List ℕ → List ℕ
last_lines block m = lines_from block m (length m / block) (min 1 (length m % block))
