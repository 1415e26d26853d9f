-- Invariant: the names so far, and those of the bytes that are left, are the names before and those of all bytes
use Rattle.std.proofs.Common.{◌≡◌, ◌++◌, length, map}
use Rattle.xxhsum_fs.specs.Entries.{entries_of}
use Rattle.xxhsum_fs.proofs.entries.add_names.Given as goal

abbrev pub invariant-loop-name : goal.invariant-loop-name
invariant-loop-name l =
    map (λ name. name.items) l.names.items ++ entries_of l.left
    ≡ map (λ name. name.items) l.initial.names.items ++ entries_of l.bytes

abbrev pub decreases-loop-name : goal.decreases-loop-name
decreases-loop-name l = length l.left
