use Rattle.std.proofs.Common.{◌≡◌, ◌==◌, drop}
use Rattle.std.specs.List.{list_any}
use Rattle.xxhsum_options.proofs.options.pattern_step.Given as goal

-- Invariant: the pattern has a slash if and only if its remaining bytes do
abbrev pub invariant-loop-byte : goal.invariant-loop-byte
invariant-loop-byte l =
    list_any (λ byte. byte == 47) l.pattern ≡ list_any (λ byte. byte == 47) (drop l.byte-index l.pattern)
