use Rattle.std.proofs.Common.{◌≡◌, drop}
use Rattle.xxhsum_options.specs.Name.{has_part}
use Rattle.xxhsum_options.proofs.name.has_part.Given as goal

-- Invariant: the name contains the text if and only if its remaining bytes do
abbrev pub invariant-loop-start : goal.invariant-loop-start
invariant-loop-start l = has_part l.text l.name ≡ has_part l.text (drop l.start l.name)
