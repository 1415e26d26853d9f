use Rattle.std.proofs.Common.{length}
use Rattle.xxhsum_program.proofs.stdout.+put_parts.Given as goal

-- Decreases: the number of remaining parts
abbrev pub decreases-put_parts : goal.decreases-put_parts
decreases-put_parts l = length l.parts.now
