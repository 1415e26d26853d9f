use Rattle.xxhsum_audit.proofs.Prelude.{◌≡◌, List, ℕ, false}
use Rattle.std.specs.List.{concat}
use Rattle.xxh_io.specs.Pieces.{NoneEmpty, Pieces}
use Rattle.xxhsum_audit.proofs.read.read_text.Given as goal

abbrev pub invariant-loop : goal.invariant-loop
invariant-loop g l = record {
  pieces : List (List ℕ);
  none_empty : NoneEmpty pieces;
  read : Pieces g.R.Source.gives l.initial.source pieces l.source;
  bytes : concat pieces ≡ l.bytes.items;
  works : g.R.Source.has_failed l.source ≡ false;
}
