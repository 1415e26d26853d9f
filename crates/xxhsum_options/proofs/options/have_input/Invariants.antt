use Rattle.std.proofs.Common.{◌≡◌, drop, map}
use Rattle.xxhsum_options.specs.Options.{have_input}
use Rattle.xxhsum_options.proofs.options.have_input.Given as goal

-- Invariant: the names include `-` if and only if the remaining names do
abbrev pub invariant-loop-name : goal.invariant-loop-name
invariant-loop-name l =
    have_input (map (λ name. name.items) l.names) ≡ have_input (map (λ name. name.items) (drop l.name-index l.names))
