-- Lemmas on the list that a record represents, from call to call, for both plain hashes.
use Rattle.twox_plain.proofs.Prelude.{◌*◌, ◌++◌, ◌+◌, ◌-◌, ◌<◌, ◌^◌, ◌≡◌, ◌≤◌, IsBytes, List, ap, drop, length, min, take, ℕ}
use Rattle.twox_plain.specs.Record.{Record, Represents, after_write, UsageFits, CoreFits, AgreeInUse}
use Rattle.twox_plain.proofs.BlockStateFacts.{counted_more, after_piece_follows, after_piece_agree}
use Rattle.twox_plain.proofs.Reachability.{LastBlock, some_followed}

module _ {C : Type 0} (stripe : ℕ) (core_of : ℕ → List ℕ → ℕ → C) (core_after : C → List ℕ → ℕ → C) (some : 0 < stripe)
    (longer : (seed : ℕ) (m d : List ℕ) (k : ℕ) → k * stripe ≤ length m → core_of seed (m ++ d) k ≡ core_of seed m k)
    (one : (seed : ℕ) (m d : List ℕ) (k : ℕ) → d ≡ take stripe (drop (k * stripe) m) → core_after (core_of seed m k) d 1 ≡ core_of seed m (k + 1)) where
  -- Lemma: a record that represents m represents m ++ d after a write of d.
  pub after_write_stands : (more : (seed : ℕ) (m d : List ℕ) (k n : ℕ) → d ≡ drop (k * stripe) m → core_after (core_of seed m k) d n ≡ core_of seed m (k + n))
      (r : Record C) (m d : List ℕ) → length r.state.buffer ≡ stripe → Represents stripe core_of r m → Represents stripe core_of (after_write stripe core_after r d) (m ++ d)
  after_write_stands more r m d size stands = (
    counted_more r.total_len m d stands.0,
    after_piece_follows stripe (core_of r.seed) core_after some (longer r.seed) (one r.seed) (more r.seed) m d r.state stands.1 size,
  )

  -- Lemma: a record that fits represents some list of bytes.
  pub fits_stands : (r : Record C) → r.total_len < 2 ^ 64 → IsBytes r.state.buffer → length r.state.buffer ≡ stripe → UsageFits stripe r → CoreFits stripe core_of r
      → ((k : ℕ) → LastBlock stripe (core_of r.seed) core_after some (longer r.seed) (one r.seed) r.state.accumulators k)
      → (m : List ℕ) × IsBytes m × Represents stripe core_of r m
  fits_stands r small bytes size usage initial last =
      some_followed stripe (core_of r.seed) core_after some (longer r.seed) (one r.seed) r.total_len r.state usage.known usage.lost initial small bytes size last

module _ {C : Type 0} (stripe : ℕ) (core_after : C → List ℕ → ℕ → C) where
  -- Lemma: records that agree in use agree in use after the same chunk.
  pub after_write_agree : (r s : Record C) (d : List ℕ) → length r.state.buffer ≡ stripe → r.state.usage < stripe → AgreeInUse r s
      → AgreeInUse (after_write stripe core_after r d) (after_write stripe core_after s d)
  after_write_agree r s d size short agree = record {
    total_len = ap (λ (n : ℕ). min (n + length d) (2 ^ 64 - 1)) agree.total_len;
    seed = agree.seed;
    state = after_piece_agree stripe core_after r.state s.state d size short agree.state;
  }

pub AgreeInUse-same : {C : Type 0} (r s : Record C) → s ≡ r → AgreeInUse r s
AgreeInUse-same {C = C} r s same = record {
  total_len = ap (λ (x : Record C). x.total_len) same;
  seed = ap (λ (x : Record C). x.seed) same;
  state = record {
    accumulators = ap (λ (x : Record C). x.state.accumulators) same;
    usage = ap (λ (x : Record C). x.state.usage) same;
    bytes = ap (λ (x : Record C). take x.state.usage x.state.buffer) same;
    size = ap (λ (x : Record C). length x.state.buffer) same;
  };
}
