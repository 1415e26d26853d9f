use Rattle.std.proofs.Common.{◌≡◌, ◌<◌, ℕ, List, Some, slice_get}
use Rattle.twox_hash.specs.Xxh32.{xxh32}
use Rattle.twox_hash.specs.ChangedUnit.{IsUnit32, NoticesChangedUnit}
use Rattle.client_proofs.proofs.blocks.first_changed.Given as goal

-- Invariant: the blocks so far have the hashes of the index, and no block one changed unit away has its block's hash.
abbrev pub invariant-loop-i : goal.invariant-loop-i
invariant-loop-i g l = record {
  unchanged : (i : ℕ) (block : List ℕ) → i < l.i → slice_get l.blocks i ≡ Some block → slice_get l.index i ≡ Some (xxh32 l.seed block);
  notices : (i : ℕ) (block : List ℕ) → i < l.i → slice_get l.blocks i ≡ Some block → NoticesChangedUnit IsUnit32 (xxh32 l.seed) block (xxh32 l.seed block);
}
