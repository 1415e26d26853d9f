use Rattle.std.proofs.Common.{◌≡◌, length}
use Rattle.xxhsum_options.specs.Exclude.{any_suffix, matches}
use Rattle.xxhsum_options.proofs.exclude.search_ahead.Given as goal

abbrev pub invariant-loop-rest : goal.invariant-loop-rest
invariant-loop-rest l = any_suffix (matches l.pattern) l.name ≡ any_suffix (matches l.pattern) l.left

abbrev pub decreases-loop-rest : goal.decreases-loop-rest
decreases-loop-rest l = length l.left
