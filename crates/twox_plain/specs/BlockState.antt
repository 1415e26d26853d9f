-- Accumulators that take whole blocks, and a buffer for the bytes after the last whole block, for any block length and
-- any type of accumulators. `after m k` is the accumulators after the first k blocks of m, and `from x d k` is x after
-- the first k blocks of d.
use Rattle.std.specs.Prelude.{◌≡◌, ◌+◌, ◌-◌, ◌*◌, ◌/◌, ◌%◌, ℕ, List, ◌++◌, take, drop, length, nat_lt, if◌then◌else◌}

-- what is kept of a message: the accumulators, the buffer, and how many of its bytes are in use
pub record BlockState (X : Type 0) : Type 0 where
  pub accumulators : X
  pub buffer : List ℕ
  pub usage : ℕ

-- the accumulators have taken the whole blocks of m, and the buffer begins with the bytes of m after them
pub record Follows {X : Type 0} (block : ℕ) (after : List ℕ → ℕ → X) (m : List ℕ) (h : BlockState X) : Type 0 where
  pub whole : h.accumulators ≡ after m (length m / block)
  pub left : h.usage ≡ length m % block
  pub bytes : take h.usage h.buffer ≡ drop (length m / block * block) m

-- the buffer with d written over it behind the bytes in use
abbrev pub buffer_with : {X : Type 0} → BlockState X → List ℕ → List ℕ
buffer_with h d = take h.usage h.buffer ++ (d ++ drop (length d) (drop h.usage h.buffer))

-- the accumulators x take the whole blocks of d, and the bytes after them go over the front of the buffer
abbrev pub after_blocks : {X : Type 0} → ℕ → (X → List ℕ → ℕ → X) → X → List ℕ → List ℕ → BlockState X
after_blocks block from x buffer d =
    let tail = drop (length d / block * block) d in
    record {
      accumulators = from x d (length d / block);
      buffer = tail ++ drop (length tail) buffer;
      usage = length tail;
    }

-- the state after one more chunk, bytes of the buffer that are not in use included
unfoldable pub after_piece : {X : Type 0} → ℕ → (X → List ℕ → ℕ → X) → BlockState X → List ℕ → BlockState X
after_piece block from h d =
    let room = block - h.usage in
    let block_of = buffer_with h (take room d) in
    if nat_lt 0 h.usage then
    (if nat_lt (length d) room then
    record { accumulators = h.accumulators; buffer = buffer_with h d; usage = h.usage + length d }
    else after_blocks block from (from h.accumulators block_of 1) block_of (drop room d))
    else after_blocks block from h.accumulators h.buffer d

-- the states agree except in bytes of the buffer that are not in use
pub record AgreeInUse {X : Type 0} (g h : BlockState X) : Type 0 where
  pub accumulators : h.accumulators ≡ g.accumulators
  pub usage : h.usage ≡ g.usage
  pub bytes : take h.usage h.buffer ≡ take g.usage g.buffer
  pub size : length h.buffer ≡ length g.buffer
