use Rattle.std.proofs.Common.{length}
use Rattle.xxhsum_program.proofs.stderr.+eprint_parts.Given as goal

-- Decreases: the number of remaining parts
abbrev pub decreases-eprint_parts : goal.decreases-eprint_parts
decreases-eprint_parts g l = length l.parts.now
