use Rattle.std.proofs.Common.{◌≡◌, drop, map}
use Rattle.xxhsum_options.specs.Options.{parsed_after, parsed_args}
use Rattle.xxhsum_options.proofs.options.parse_args.Given as goal

-- Invariant: the result is that of the remaining arguments with the options so far
abbrev pub invariant-loop-at : goal.invariant-loop-at
invariant-loop-at l =
    parsed_args l.fn.kind (map (λ word. word.items) l.words)
    ≡ parsed_after l.at l.options (map (λ word. word.items) (drop l.at l.words))
