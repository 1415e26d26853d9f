use Rattle.std.proofs.Common.{length}
use Rattle.xxhsum_program.proofs.stderr.+eprint_escaped_parts.Given as goal

-- Decreases: the number of remaining parts
abbrev pub decreases-eprint_escaped_parts : goal.decreases-eprint_escaped_parts
decreases-eprint_escaped_parts g l = length l.parts.now
