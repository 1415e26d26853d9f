use Rattle.std.proofs.Common.{◌≡◌}
use Rattle.xxhsum_options.specs.Exclude.{ahead_value, length_ahead, matches}
use Rattle.xxhsum_options.proofs.exclude.matches.Given as goal

abbrev pub invariant-loop-met : goal.invariant-loop-met
invariant-loop-met l = ahead_value l.met ≡ matches l.pattern l.name

abbrev pub decreases-loop-met : goal.decreases-loop-met
decreases-loop-met l = length_ahead l.met
