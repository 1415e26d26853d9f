use Rattle.std.proofs.Common.{length}
use Rattle.xxhsum_options.proofs.table.+name_in.Given as goal

-- Decreases: the number of remaining rows
abbrev pub decreases-name_in : goal.decreases-name_in
decreases-name_in l = length l.rows.now
