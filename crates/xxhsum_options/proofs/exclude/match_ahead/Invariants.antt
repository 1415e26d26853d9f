use Rattle.std.proofs.Common.{◌≡◌, ◌≤◌, ℕ, drop, length, true}
use Rattle.xxhsum_options.specs.Exclude.{matches, matches_from}
use Rattle.xxhsum_options.proofs.exclude.match_ahead.Given as goal

-- Invariant: the pattern matches the name, or a suffix of it, like the rest of the pattern the rest of the name
abbrev pub invariant-loop-first : goal.invariant-loop-first
invariant-loop-first l = record {
  value : matches l.pattern l.name ≡ matches_from l.is_quoted l.others l.left;
  leftmost : (k : ℕ) → matches l.pattern (drop k l.name) ≡ true → matches_from l.is_quoted l.others (drop k l.left) ≡ true;
  shorter : length l.others ≤ length l.pattern;
}

abbrev pub decreases-loop-first : goal.decreases-loop-first
decreases-loop-first l = length l.others
