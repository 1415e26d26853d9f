-- Lemma on the usage word of a record in memory: the mark plus the number of buffered bytes.
use Rattle.twox_plain.proofs.Prelude.{◌+◌, ◌≡◌, ◌≤◌, arith, w32, wrap_sub, ℕ}
use Rattle.twox_plain.specs.declared.xxhash32.TheConstants.{MARK}

pub usage_marked : (k : ℕ) → k ≤ 16 → wrap_sub w32 (MARK + k) MARK ≡ k
usage_marked k small = omega arith
