-- Lemmas on a state that follows a message in chunks, for any block length and any accumulators.
use Rattle.std.proofs.Common.{◌≡◌, ℕ, ◌+◌, ◌-◌, ◌*◌, ◌/◌, ◌%◌, ◌^◌, ◌<◌, ◌≤◌, min, List, [], ◌++◌, length, take, drop, nat_lt, true, false, inl, inr, refl, sym, ap, ap₂, subst, ◌∙◌, arith, length-append, length-drop}
use Rattle.twox_plain.proofs.Prelude.{cases_lt, counted, div-add-mod', div-eq_of_lt, div-mul-add, drop-append-add, mod-mul-add, mod_below, nat_tests, take-append-add, take-put_mid}
use Rattle.std.proofs.lemmas.List.{append-nil, drop-append-le, drop-drop, drop_all, drop_at, take_at, length-take-le}
use Rattle.twox_plain.specs.BlockState.{BlockState, Follows, AgreeInUse, buffer_with, after_blocks, after_piece}

-- Lemma: the count of m plus the length of d, at most 2 ^ 64 - 1, is the count of m ++ d.
pub counted_more : (t : ℕ) (m d : List ℕ) → t ≡ counted (length m) → min (t + length d) (2 ^ 64 - 1) ≡ counted (length (m ++ d))
counted_more t m d count = omega (arith, length-append m d)

-- ---- the three cases of a chunk

module _ {X : Type 0} (block : ℕ) (from : X → List ℕ → ℕ → X) where
  -- Lemma: a chunk that leaves the buffer short of a block is appended to the bytes in use.
  pub after_piece_short : (h : BlockState X) (d : List ℕ) → 0 < h.usage → length d < block - h.usage
      → after_piece block from h d ≡ record { accumulators = h.accumulators; buffer = buffer_with h d; usage = h.usage + length d }
  unfolding after_piece
  after_piece_short h d used short =
      let test1 : nat_lt 0 h.usage ≡ true = grind (arith, nat_tests) in
      let test2 : nat_lt (length d) (block - h.usage) ≡ true = grind (arith, nat_tests) in
      rw (test1, test2) refl

  -- Lemma: a chunk that fills the buffer makes it a block for the accumulators, and then its rest is hashed.
  pub after_piece_full : (h : BlockState X) (d : List ℕ) → 0 < h.usage → block - h.usage ≤ length d
      → let room = block - h.usage in
      let block_of = buffer_with h (take room d) in
      after_piece block from h d ≡ after_blocks block from (from h.accumulators block_of 1) block_of (drop room d)
  unfolding after_piece
  after_piece_full h d used full =
      let test1 : nat_lt 0 h.usage ≡ true = grind (arith, nat_tests) in
      let test2 : nat_lt (length d) (block - h.usage) ≡ false = grind (arith, nat_tests) in
      rw (test1, test2) refl

  -- Lemma: a chunk is hashed directly, without the buffer, if the buffer is empty.
  pub after_piece_empty : (h : BlockState X) (d : List ℕ) → h.usage ≤ 0 → after_piece block from h d ≡ after_blocks block from h.accumulators h.buffer d
  unfolding after_piece
  after_piece_empty h d unused =
      let test : nat_lt 0 h.usage ≡ false = grind (arith, nat_tests) in
      rw test refl

  -- Lemma: a chunk that leaves less than a block is appended, whether the buffer is empty or not.
  pub after_piece_kept : (h : BlockState X) (d : List ℕ) → from h.accumulators d 0 ≡ h.accumulators → length d < block - h.usage
      → after_piece block from h d ≡ record { accumulators = h.accumulators; buffer = buffer_with h d; usage = h.usage + length d }
  after_piece_kept h d none short = elim (cases_lt 0 h.usage) [
    | inl used ↦ after_piece_short h d used short
    | inr unused ↦
        let zero_used : h.usage ≡ 0 = omega (arith, unused) in
        let whole : length d / block ≡ 0 = div-eq_of_lt (omega (arith, short)) in
        let no_blocks : 0 * block ≡ 0 = omega arith in
        let all_used : 0 + length d ≡ length d = omega arith in
        rw (after_piece_empty h d unused, whole, zero_used, no_blocks, all_used, none) refl
  ]

-- ---- a state that follows m follows m ++ d after the chunk d

module _ {X : Type 0} (block : ℕ) (after : List ℕ → ℕ → X) where
  -- Lemma: a state follows m if it has taken q blocks of m and its bytes in use, less than a block, are the rest.
  pub follows_from : (m : List ℕ) (h : BlockState X) (q : ℕ) → length m ≡ q * block + h.usage → h.usage < block → h.accumulators ≡ after m q → take h.usage h.buffer ≡ drop (q * block) m → Follows block after m h
  follows_from m h q len short accumulators bytes =
      let whole : length m / block ≡ q = ap (λ (n : ℕ). n / block) len ∙ div-mul-add q block h.usage short in
      let left : length m % block ≡ h.usage = ap (λ (n : ℕ). n % block) len ∙ mod-mul-add q block h.usage short in
      record { whole = rw whole accumulators; left = sym left; bytes = rw whole bytes }

  -- Lemma: the blocks taken and the bytes in use have the length of m.
  parts : (m : List ℕ) (h : BlockState X) → Follows block after m h → length m / block * block + h.usage ≡ length m
  parts m h follows = ap (λ (n : ℕ). length m / block * block + n) follows.left ∙ div-add-mod' (length m) block

module _ {X : Type 0} (block : ℕ) (after : List ℕ → ℕ → X) (from : X → List ℕ → ℕ → X) (some : 0 < block)
    (longer : (m d : List ℕ) (k : ℕ) → k * block ≤ length m → after (m ++ d) k ≡ after m k)
    (one : (m d : List ℕ) (k : ℕ) → d ≡ take block (drop (k * block) m) → from (after m k) d 1 ≡ after m (k + 1))
    (more : (m d : List ℕ) (k n : ℕ) → d ≡ drop (k * block) m → from (after m k) d n ≡ after m (k + n)) where
  -- Lemma: after_blocks follows m if the accumulators have taken q blocks of m and d is the rest.
  follows_after_blocks : (m d buffer : List ℕ) (x : X) (q : ℕ) → q * block ≤ length m → x ≡ after m q → d ≡ drop (q * block) m → Follows block after m (after_blocks block from x buffer d)
  follows_after_blocks m d buffer x q within accumulators bytes =
      let k = length d / block in
      let tail = drop (k * block) d in
      let len : length d ≡ length m - q * block = ap length bytes ∙ length-drop (q * block) m in
      let split : k * block + length d % block ≡ length d = div-add-mod' (length d) block in
      let left : length tail ≡ length d % block = omega (arith, length-drop (k * block) d) in
      let short : length d % block < block = mod_below (length d) block some in
      let place : q * block + k * block ≡ (q + k) * block = omega arith in
      let there : tail ≡ drop ((q + k) * block) m = ap (drop (k * block)) bytes ∙ rw (drop-drop (k * block) (q * block) m, place) refl in
      let taken : from x d k ≡ after m (q + k) = rw accumulators (more m d q k bytes) in
      follows_from block after m (after_blocks block from x buffer d) (q + k) (omega arith) (omega arith) taken (take_at tail (drop (length tail) buffer) (length tail) refl ∙ there)

  -- Lemma: the buffer filled with the first bytes of d is the next block of m ++ d.
  next_block : (m d : List ℕ) (h : BlockState X) → Follows block after m h → length h.buffer ≡ block → h.usage < block → block - h.usage ≤ length d
      → buffer_with h (take (block - h.usage) d) ≡ take block (drop (length m / block * block) (m ++ d))
  next_block m d h follows size short enough =
      let q = length m / block in
      let n = block - h.usage in
      let all = parts block after m h follows in
      let room : length (take n d) ≡ n = length-take-le n d enough in
      let none : drop (length (take n d)) (drop h.usage h.buffer) ≡ [] = drop_all (length (take n d)) (drop h.usage h.buffer) (omega (arith, room, length-drop h.usage h.buffer)) in
      let front : drop (q * block) (m ++ d) ≡ drop (q * block) m ++ d = drop-append-le (q * block) m d (omega arith) in
      let sum : length (drop (q * block) m) + n ≡ block = omega (arith, length-drop (q * block) m) in
      let head : take block (drop (q * block) m ++ d) ≡ drop (q * block) m ++ take n d = rw sum at (take-append-add (drop (q * block) m) d n) in
      rw (none, append-nil, front, head, follows.bytes) refl

  follows_short : (m d : List ℕ) (h : BlockState X) → Follows block after m h → length h.buffer ≡ block → h.usage + length d < block
      → Follows block after (m ++ d) (record { accumulators = h.accumulators; buffer = buffer_with h d; usage = h.usage + length d })
  follows_short m d h follows size short =
      let q = length m / block in
      let all = parts block after m h follows in
      let placed : take (h.usage + length d) (buffer_with h d) ≡ take h.usage h.buffer ++ d = take-put_mid h.usage (length d) h.buffer d (h.usage + length d) refl (omega arith) in
      follows_from block after (m ++ d) (record { accumulators = h.accumulators; buffer = buffer_with h d; usage = h.usage + length d }) q (omega (arith, length-append m d)) short
      (follows.whole ∙ sym (longer m d q (omega arith)))
      (placed ∙ ap (λ (xs : List ℕ). xs ++ d) follows.bytes ∙ sym (drop-append-le (q * block) m d (omega arith)))

  follows_full : (m d : List ℕ) (h : BlockState X) → Follows block after m h → length h.buffer ≡ block → h.usage < block → block - h.usage ≤ length d
      → let block_of = buffer_with h (take (block - h.usage) d) in
      Follows block after (m ++ d) (after_blocks block from (from h.accumulators block_of 1) block_of (drop (block - h.usage) d))
  follows_full m d h follows size short enough =
      let q = length m / block in
      let n = block - h.usage in
      let block_of = buffer_with h (take n d) in
      let all = parts block after m h follows in
      let end : (q + 1) * block ≡ length m + n = omega arith in
      let taken_before : h.accumulators ≡ after (m ++ d) q = follows.whole ∙ sym (longer m d q (omega arith)) in
      let taken : from h.accumulators block_of 1 ≡ after (m ++ d) (q + 1) = rw taken_before (one (m ++ d) block_of q (next_block m d h follows size short enough)) in
      follows_after_blocks (m ++ d) (drop n d) block_of (from h.accumulators block_of 1) (q + 1) (omega (arith, length-append m d)) taken (rw end (sym (drop-append-add m d n)))

  follows_empty : (m d : List ℕ) (h : BlockState X) → Follows block after m h → h.usage ≤ 0 → Follows block after (m ++ d) (after_blocks block from h.accumulators h.buffer d)
  follows_empty m d h follows unused =
      let q = length m / block in
      let all = parts block after m h follows in
      follows_after_blocks (m ++ d) d h.buffer h.accumulators q (omega (arith, length-append m d))
      (follows.whole ∙ sym (longer m d q (omega arith)))
      (sym (drop_at m d (q * block) (omega arith)))

  -- Lemma: a state that follows m follows m ++ d after the chunk d.
  pub after_piece_follows : (m d : List ℕ) (h : BlockState X) → Follows block after m h → length h.buffer ≡ block → Follows block after (m ++ d) (after_piece block from h d)
  after_piece_follows m d h follows size =
      let short : h.usage < block = rw follows.left (mod_below (length m) block some) in
      let P : BlockState X → Type 0 = λ next. Follows block after (m ++ d) next in
      elim (cases_lt 0 h.usage) [
        | inr unused ↦ subst P (sym (after_piece_empty block from h d unused)) (follows_empty m d h follows unused)
        | inl used ↦ elim (cases_lt (length d) (block - h.usage)) [
          | inl less ↦ subst P (sym (after_piece_short block from h d used less)) (follows_short m d h follows size (omega arith))
          | inr enough ↦ subst P (sym (after_piece_full block from h d used enough)) (follows_full m d h follows size short enough)
        ]
      ]

-- ---- bytes of the buffer that are not in use have no effect

module _ {X : Type 0} (block : ℕ) (from : X → List ℕ → ℕ → X) where
  -- Lemma: after_blocks gives states that agree in use from any two buffers of the same length.
  after_blocks_agree : (x y : X) (b c d : List ℕ) → y ≡ x → length c ≡ length b → AgreeInUse (after_blocks block from x b d) (after_blocks block from y c d)
  after_blocks_agree x y b c d same size =
      let tail = drop (length d / block * block) d in
      record {
        accumulators = ap (λ (z : X). from z d (length d / block)) same;
        usage = refl;
        bytes = take_at tail (drop (length tail) c) (length tail) refl ∙ sym (take_at tail (drop (length tail) b) (length tail) refl);
        size =
            length-append tail (drop (length tail) c) ∙ ap (λ (n : ℕ). length tail + n) (length-drop (length tail) c ∙ ap (λ (n : ℕ). n - length tail) size ∙ sym (length-drop (length tail) b))
            ∙ sym (length-append tail (drop (length tail) b));
      }

  -- Lemma: writing a chunk that fits doesn't change the buffer's length.
  length-buffer_with : (h : BlockState X) (d : List ℕ) → length h.buffer ≡ block → h.usage + length d ≤ block → length (buffer_with h d) ≡ block
  length-buffer_with h d size fits =
      length-append (take h.usage h.buffer) (d ++ drop (length d) (drop h.usage h.buffer))
      ∙ omega (arith, length-take-le h.usage h.buffer (omega arith), length-append d (drop (length d) (drop h.usage h.buffer)), length-drop (length d) (drop h.usage h.buffer), length-drop h.usage h.buffer)

  -- Lemma: the bytes in use after a chunk are the bytes in use before it and then the chunk.
  in_use_and_piece : (h : BlockState X) (d : List ℕ) → length h.buffer ≡ block → h.usage + length d ≤ block → take (h.usage + length d) (buffer_with h d) ≡ take h.usage h.buffer ++ d
  in_use_and_piece h d size fits = take-put_mid h.usage (length d) h.buffer d (h.usage + length d) refl (omega arith)

  -- Lemma: a buffer that a chunk fills is the bytes in use and then the chunk.
  full_buffer : (h : BlockState X) (d : List ℕ) → length h.buffer ≡ block → h.usage + length d ≡ block → buffer_with h d ≡ take h.usage h.buffer ++ d
  full_buffer h d size full =
      let none : drop (length d) (drop h.usage h.buffer) ≡ [] = drop_all (length d) (drop h.usage h.buffer) (omega (arith, length-drop h.usage h.buffer)) in
      rw (none, append-nil) refl

  -- Lemma: states that agree in use agree in use after the same chunk.
  pub after_piece_agree : (g h : BlockState X) (d : List ℕ) → length g.buffer ≡ block → g.usage < block → AgreeInUse g h
      → AgreeInUse (after_piece block from g d) (after_piece block from h d)
  after_piece_agree g h d size short agree =
      let size' : length h.buffer ≡ block = agree.size ∙ size in
      let both = λ (a b : BlockState X) (p : after_piece block from g d ≡ a) (q : after_piece block from h d ≡ b) (same : AgreeInUse a b).
      subst (λ (z : BlockState X). AgreeInUse (after_piece block from g d) z) (sym q) (subst (λ (z : BlockState X). AgreeInUse z b) (sym p) same) in
      elim (cases_lt 0 g.usage) [
        | inr unused ↦
            both _ _ (after_piece_empty block from g d unused) (after_piece_empty block from h d (omega (arith, agree.usage)))
            (after_blocks_agree g.accumulators h.accumulators g.buffer h.buffer d agree.accumulators agree.size)
        | inl used ↦ elim (cases_lt (length d) (block - g.usage)) [
          | inl less ↦
              both _ _ (after_piece_short block from g d used less) (after_piece_short block from h d (omega (arith, agree.usage)) (omega (arith, agree.usage)))
              (record {
                accumulators = agree.accumulators;
                usage = ap (λ (n : ℕ). n + length d) agree.usage;
                bytes = in_use_and_piece h d size' (omega (arith, agree.usage)) ∙ ap (λ (xs : List ℕ). xs ++ d) agree.bytes ∙ sym (in_use_and_piece g d size (omega arith));
                size = length-buffer_with h d size' (omega (arith, agree.usage)) ∙ sym (length-buffer_with g d size (omega arith));
              })
          | inr enough ↦
              let n = block - g.usage in
              let room : block - h.usage ≡ n = ap (λ (u : ℕ). block - u) agree.usage in
              let piece : length (take n d) ≡ n = length-take-le n d enough in
              let buffers : buffer_with h (take n d) ≡ buffer_with g (take n d) =
              full_buffer h (take n d) size' (omega (arith, agree.usage)) ∙ ap (λ (xs : List ℕ). xs ++ take n d) agree.bytes ∙ sym (full_buffer g (take n d) size (omega arith)) in
              let next : from h.accumulators (buffer_with h (take n d)) 1 ≡ from g.accumulators (buffer_with g (take n d)) 1 = ap₂ (λ (x : X) (xs : List ℕ). from x xs 1) agree.accumulators buffers in
              both _ _ (after_piece_full block from g d used enough)
              (rw room at (after_piece_full block from h d (omega (arith, agree.usage)) (omega (arith, agree.usage))))
              (after_blocks_agree _ _ _ _ (drop n d) next (ap length buffers))
        ]
      ]
