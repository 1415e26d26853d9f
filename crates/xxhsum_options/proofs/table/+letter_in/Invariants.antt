use Rattle.std.proofs.Common.{length}
use Rattle.xxhsum_options.proofs.table.+letter_in.Given as goal

-- Decreases: the number of remaining rows
abbrev pub decreases-letter_in : goal.decreases-letter_in
decreases-letter_in l = length l.rows.now
