use Rattle.std.proofs.Common.{◌≡◌, drop, map}
use Rattle.xxhsum_options.specs.Exclude.{is_excluded, patterns_from, patterns_in}
use Rattle.xxhsum_options.proofs.exclude.is_excluded.Given as goal

-- Invariant: a pattern in the words matches the name if and only if one in the remaining words does
abbrev pub invariant-loop-word : goal.invariant-loop-word
invariant-loop-word l =
    is_excluded (patterns_in (map (λ word. word.items) l.words)) l.name
    ≡ is_excluded (patterns_from l.is_awaited (map (λ word. word.items) (drop l.word-index l.words))) l.name
