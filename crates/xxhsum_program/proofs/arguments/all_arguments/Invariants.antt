use Rattle.std.proofs.Common.{◌≡◌, ℕ, ◌<◌, [], length, get_or, map}
use Rattle.xxhsum_program.proofs.arguments.all_arguments.Given as goal

-- Invariant: the arguments so far, each at its index
abbrev pub invariant-loop-index : goal.invariant-loop-index
invariant-loop-index g l = record {
  count : length l.all.items ≡ l.index;
  held : (index : ℕ) → index < l.index → g.A.Arguments.holds l.arguments index (get_or (map (λ argument. argument.items) l.all.items) index []);
}
