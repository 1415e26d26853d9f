-- The reads and writes of block digests.
use Rattle.std.specs.Prelude.{ℕ, ◌≤◌, ◌⊎◌, List, length, Result, Ok, Err}
use Rattle.std.specs.List.{concat}
use Rattle.xxh_io.specs.declared.digest_error.DigestError.{DigestError}
use Rattle.xxh_io.specs.declared.digest_error.DigestError.TheVariants.{ReadFailed, WriteFailed, TooLong}
use Rattle.xxh_io.specs.Pieces.{Pieces}
use Rattle.xxh_io.specs.Digest.{ReadsOn, Took, Refused}
use Rattle.xxh_program.specs.Filter.{Filter}
use Rattle.xxh_program.specs.Blocks.{block_lines, whole_block_lines}

-- `pieces` is the list of nonempty chunks that were read. At the end of the input, the lines of all blocks were
-- written. If a read failed or the input was too long, the lines of the whole blocks were written. If a write failed at
-- the end of the input, a proper prefix of the lines of all blocks was written. If a write failed before, after at most
-- max_reads chunks, a proper prefix of the lines of the whole blocks was written.
abbrev pub DigestsBlocks : {R W : Type 0} → Filter R W → ℕ → ℕ → List (List ℕ) → Result (Unit {0}) DigestError → Type 0
DigestsBlocks filter block max_reads pieces (Ok x) =
    ReadsOn {T = Unit {0}} filter.reading max_reads pieces filter.source filter.rest (Ok x)
    × Took filter.writing (block_lines block (concat pieces)) filter.old filter.new
DigestsBlocks filter block max_reads pieces (Err ReadFailed) =
    ReadsOn {T = Unit {0}} filter.reading max_reads pieces filter.source filter.rest (Err ReadFailed)
    × Took filter.writing (whole_block_lines block (concat pieces)) filter.old filter.new
DigestsBlocks filter block max_reads pieces (Err TooLong) =
    ReadsOn {T = Unit {0}} filter.reading max_reads pieces filter.source filter.rest (Err TooLong)
    × Took filter.writing (whole_block_lines block (concat pieces)) filter.old filter.new
DigestsBlocks filter block max_reads pieces (Err WriteFailed) =
    (ReadsOn {T = Unit {0}} filter.reading max_reads pieces filter.source filter.rest (Err WriteFailed)
    × Refused filter.writing (block_lines block (concat pieces)) filter.old filter.new)
    ⊎ ((length pieces ≤ max_reads) × Pieces filter.reading.gives filter.source pieces filter.rest
    × Refused filter.writing (whole_block_lines block (concat pieces)) filter.old filter.new)
