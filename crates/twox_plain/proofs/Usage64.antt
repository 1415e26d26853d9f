-- Lemma on the usage word of a record in memory: the mark plus the number of buffered bytes.
use Rattle.twox_plain.proofs.Prelude.{◌+◌, ◌≡◌, ◌≤◌, MARK, arith, w32, wrap_sub, ℕ}

pub usage_marked : (k : ℕ) → k ≤ 32 → wrap_sub w32 (MARK + k) MARK ≡ k
usage_marked k small = omega arith
