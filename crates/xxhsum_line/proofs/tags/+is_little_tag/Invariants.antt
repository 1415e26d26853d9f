use Rattle.xxhsum_line.proofs.Prelude.{length}
use Rattle.xxhsum_line.proofs.tags.+is_little_tag.Given as goal

abbrev pub decreases-is_little_tag : goal.decreases-is_little_tag
decreases-is_little_tag l = length l.tag.now
