use Rattle.std.proofs.Common.{length}
use Rattle.xxhsum_program.proofs.stderr.+need_escape.Given as goal

-- Decreases: the number of remaining parts
abbrev pub decreases-need_escape : goal.decreases-need_escape
decreases-need_escape l = length l.parts.now
