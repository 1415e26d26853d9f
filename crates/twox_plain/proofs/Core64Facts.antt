-- Lemmas on the accumulators of XXH64, which follow the message stripe by stripe.
use Rattle.twox_plain.proofs.Prelude.{◌*◌, ◌++◌, ◌+◌, ◌≡◌, ◌≤◌, List, drop, length, slice_index, take, w64, ℕ}
use Rattle.twox_plain.specs.Xxh64.{initial_accumulators, round, accumulator}
use Rattle.twox_plain.specs.Core64.{core_of_stripes, core_after_stripes}
use Rattle.twox_plain.specs.declared.xxhash64.Core.{Core}
use Rattle.twox_plain.proofs.FourAccumulators.{after_stripes_one, after_stripes_more, after_stripes_part, after_stripes_longer}

abbrev pub core_of : ℕ → ℕ → ℕ → ℕ → Core
core_of a b c d = record { v1 = a; v2 = b; v3 = c; v4 = d }

abbrev initial : ℕ → ℕ → ℕ
initial seed j = slice_index (initial_accumulators seed) j

-- Lemma: one more stripe after k stripes of d gives k + 1 stripes.
pub core_after_stripes_next : (c : Core) (d stripe : List ℕ) (k : ℕ) → stripe ≡ take 32 (drop (k * 32) d) → core_after_stripes (core_after_stripes c d k) stripe 1 ≡ core_after_stripes c d (k + 1)
unfolding core_after_stripes
core_after_stripes_next c d = λ stripe k. after_stripes_one w64 round core_of c.v1 c.v2 c.v3 c.v4 d k stripe

-- Lemma: n stripes, read from a part of d that has only these, give k + n stripes.
pub core_after_stripes_part : (c : Core) (d part : List ℕ) (k n : ℕ) → part ≡ take (n * 32) (drop (k * 32) d) → n * 32 ≤ length part → core_after_stripes (core_after_stripes c d k) part n ≡ core_after_stripes c d (k + n)
unfolding core_after_stripes
core_after_stripes_part c d = λ part k n. after_stripes_part w64 round core_of c.v1 c.v2 c.v3 c.v4 d part k n

-- Lemma: n stripes of the bytes of d after the first k stripes give k + n stripes.
pub core_after_stripes_more : (c : Core) (d rest : List ℕ) (k n : ℕ) → rest ≡ drop (k * 32) d → core_after_stripes (core_after_stripes c d k) rest n ≡ core_after_stripes c d (k + n)
unfolding core_after_stripes
core_after_stripes_more c d = λ rest k n. after_stripes_more w64 round core_of c.v1 c.v2 c.v3 c.v4 d k rest n

-- Lemma: one more stripe after k stripes of m gives k + 1 stripes.
pub core_of_stripes_one : (seed : ℕ) (m stripe : List ℕ) (k : ℕ) → stripe ≡ take 32 (drop (k * 32) m) → core_after_stripes (core_of_stripes seed m k) stripe 1 ≡ core_of_stripes seed m (k + 1)
unfolding core_after_stripes core_of_stripes accumulator
core_of_stripes_one seed m = λ stripe k. after_stripes_one w64 round core_of (initial seed 0) (initial seed 1) (initial seed 2) (initial seed 3) m k stripe

-- Lemma: n stripes of the bytes of m after the first k stripes give k + n stripes.
pub core_of_stripes_more : (seed : ℕ) (m rest : List ℕ) (k n : ℕ) → rest ≡ drop (k * 32) m → core_after_stripes (core_of_stripes seed m k) rest n ≡ core_of_stripes seed m (k + n)
unfolding core_after_stripes core_of_stripes accumulator
core_of_stripes_more seed m = λ rest k n. after_stripes_more w64 round core_of (initial seed 0) (initial seed 1) (initial seed 2) (initial seed 3) m k rest n

-- Lemma: bytes appended to m don't change the accumulators after k stripes of m.
pub core_of_stripes_longer : (seed : ℕ) (m d : List ℕ) (k : ℕ) → k * 32 ≤ length m → core_of_stripes seed (m ++ d) k ≡ core_of_stripes seed m k
unfolding core_of_stripes accumulator
core_of_stripes_longer seed m = λ d k. after_stripes_longer w64 round core_of (initial seed 0) (initial seed 1) (initial seed 2) (initial seed 3) m k d
