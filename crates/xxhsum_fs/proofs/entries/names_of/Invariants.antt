-- Invariant: the names are those of the chunks that were read so far
use Rattle.std.proofs.Common.{◌≡◌, List, ℕ, flat_map, map}
use Rattle.xxh_io.specs.Pieces.{NoneEmpty, Pieces}
use Rattle.xxhsum_fs.specs.Entries.{entries_of}
use Rattle.xxhsum_fs.specs.Uninterrupted.{GivesAtLast}
use Rattle.xxhsum_fs.proofs.entries.names_of.Given as goal

abbrev pub invariant-loop : goal.invariant-loop
invariant-loop g l = record {
  pieces : List (List ℕ);
  none_empty : NoneEmpty pieces;
  read : Pieces (GivesAtLast g.D.ReadCall) l.initial.directory pieces l.directory;
  names : map (λ name. name.items) l.names.items ≡ flat_map entries_of pieces;
}
