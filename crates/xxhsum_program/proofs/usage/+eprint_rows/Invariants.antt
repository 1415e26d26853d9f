use Rattle.std.proofs.Common.{length}
use Rattle.xxhsum_program.proofs.usage.+eprint_rows.Given as goal

-- Decreases: the number of remaining rows
abbrev pub decreases-eprint_rows : goal.decreases-eprint_rows
decreases-eprint_rows g l = length l.rows.now
