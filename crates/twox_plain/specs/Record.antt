-- The parts of a record that both plain hashes share, for any stripe of bytes and any type C of accumulators. `core_of
-- seed m k` is the accumulators of the seed after the first k stripes of m, and `core_after c d k` is c after the first
-- k stripes of d.
use Rattle.std.specs.Prelude.{◌≡◌, ◌<◌, ◌+◌, ◌-◌, ◌%◌, ◌^◌, ℕ, List, [], length, min, replicate}
use Rattle.twox_words.specs.Word.{counted}
use Rattle.twox_plain.specs.BlockState.{BlockState, Follows, after_piece}
use Rattle.twox_plain.specs.BlockState as Block

-- the counted length, the seed, and the accumulators with the buffer
pub record Record (C : Type 0) : Type 0 where
  pub total_len : ℕ
  pub seed : ℕ
  pub state : BlockState C

-- the record represents m: it has counted m, and its accumulators and its buffer follow m under its seed
abbrev pub Represents : {C : Type 0} → ℕ → (ℕ → List ℕ → ℕ → C) → Record C → List ℕ → Type 0
Represents stripe core_of r m = (r.total_len ≡ counted (length m)) × Follows stripe (core_of r.seed) m r.state

-- the record of no bytes
abbrev pub initial_record : {C : Type 0} → ℕ → (ℕ → List ℕ → ℕ → C) → ℕ → Record C
initial_record stripe core_of seed = record {
  total_len = 0;
  seed = seed;
  state = record { accumulators = core_of seed [] 0; buffer = replicate stripe 0; usage = 0 };
}

-- the record after one more chunk, exactly
abbrev pub after_write : {C : Type 0} → ℕ → (C → List ℕ → ℕ → C) → Record C → List ℕ → Record C
after_write stripe core_after r d =
    let total_len = min (r.total_len + length d) (2 ^ 64 - 1) in
    record { total_len = total_len; seed = r.seed; state = after_piece stripe core_after r.state d }

-- the buffer usage agrees with the length: it is the length's remainder or, if the length overflowed, less than a
-- stripe
pub record UsageFits {C : Type 0} (stripe : ℕ) (r : Record C) : Type 0 where
  pub known : r.total_len < 2 ^ 64 - 1 → r.state.usage ≡ r.total_len % stripe
  pub lost : r.total_len ≡ 2 ^ 64 - 1 → r.state.usage < stripe

-- accumulators that have taken no stripe are the seed's initial ones
abbrev pub CoreFits : {C : Type 0} → ℕ → (ℕ → List ℕ → ℕ → C) → Record C → Type 0
CoreFits stripe core_of r = r.total_len < stripe → r.state.accumulators ≡ core_of r.seed [] 0

-- the records agree except in bytes of the buffer that are not in use
pub record AgreeInUse {C : Type 0} (r s : Record C) : Type 0 where
  pub total_len : s.total_len ≡ r.total_len
  pub seed : s.seed ≡ r.seed
  pub state : Block.AgreeInUse r.state s.state
