-- Lemmas on reachability: a block of words takes any accumulators to any others, so each state that fits its count
-- follows some list of bytes. They hold for any width, any block length and any accumulators.
use Rattle.std.proofs.Common.{◌≡◌, ℕ, zero, suc, ◌+◌, ◌-◌, ◌*◌, ◌/◌, ◌%◌, ◌^◌, ◌<◌, ◌≤◌, List, [], ◌∷◌, ◌++◌, length, take, drop, replicate, inl, inr, refl, sym, ap, ◌∙◌, arith, lit<, mod-lt, pow_pos, zero-mul, zero-add, slice_index, length-append}
use Rattle.twox_plain.proofs.Prelude.{BlockState, Follows, IsBytes-part, cases_lt, left_is_rotated, multiple_back, rotated, rotated-lt, turned_back, word_at-append, word_at-append_right}
use Rattle.std.proofs.lemmas.List.{drop_at, take_at, drop-drop, length-replicate, length-take-le, take_all}
use Rattle.std.proofs.lemmas.Nat.{from_le_bytes-to_le_bytes_4, from_le_bytes-to_le_bytes_8, div-add-mod', mod_below, mul-le, le-div}
use Rattle.std.proofs.Math.Nat.{add-mod-mod, add-mod_left, mod-eq_of_lt, eq-or-lt_of_le, mul-le-mul_left}
use Rattle.std.specs.Int.{Width, w32, w64, byte_len, from_le_bytes, to_le_bytes, rotate_left}
use mir.Val.{bits}
use Rattle.twox_words.specs.Word.{IsBytes, word_at, wrap_add, wrap_mul, counted}
use Rattle.twox_plain.specs.Units.{after_units}
use Rattle.twox_plain.proofs.BlockStateFacts.{follows_from}
use Rattle.twox_plain.proofs.FourAccumulators.{after_stripes}

-- ---- lists of bytes

IsBytes-none : IsBytes []
IsBytes-none k = lit< tt

IsBytes-cons : (x : ℕ) (xs : List ℕ) → x < 2 ^ 8 → IsBytes xs → IsBytes (x ∷ xs)
IsBytes-cons x xs small p zero = small
IsBytes-cons x xs small p (suc k) = p k

IsBytes-append : (xs ys : List ℕ) → IsBytes xs → IsBytes ys → IsBytes (xs ++ ys)
IsBytes-append [] ys p q = q
IsBytes-append (x ∷ xs) ys p q = IsBytes-cons x (xs ++ ys) (p 0) (IsBytes-append xs ys (λ k. p (suc k)) q)

IsBytes-zeros : (n : ℕ) → IsBytes (replicate n 0)
IsBytes-zeros zero = IsBytes-none
IsBytes-zeros (suc n) = IsBytes-cons 0 (replicate n 0) (lit< tt) (IsBytes-zeros n)

low_bytes : List ℕ → List ℕ
low_bytes [] = []
low_bytes (x ∷ xs) = x % 2 ^ 8 ∷ low_bytes xs

IsBytes-low_bytes : (xs : List ℕ) → IsBytes (low_bytes xs)
unfolding low_bytes
IsBytes-low_bytes [] = IsBytes-none
IsBytes-low_bytes (x ∷ xs) = IsBytes-cons (x % 2 ^ 8) (low_bytes xs) (mod-lt x (pow_pos 8)) (IsBytes-low_bytes xs)

-- ---- words, written as bytes

-- True if each word reads back from the bytes that it is written as.
pub record IsWritable (w : Width) : Type 0 where
  pub back : (n : ℕ) → n < 2 ^ bits w → from_le_bytes w (to_le_bytes w n) ≡ n
  pub size : (n : ℕ) → length (to_le_bytes w n) ≡ byte_len w
  pub bytes : (n : ℕ) → IsBytes (to_le_bytes w n)

pub writable_32 : IsWritable w32
unfolding low_bytes
writable_32 = record {
  back = from_le_bytes-to_le_bytes_4;
  size = λ n. refl;
  bytes = λ n. IsBytes-low_bytes (n ∷ n / 256 ^ 1 ∷ n / 256 ^ 2 ∷ n / 256 ^ 3 ∷ []);
}

pub writable_64 : IsWritable w64
unfolding low_bytes
writable_64 = record {
  back = from_le_bytes-to_le_bytes_8;
  size = λ n. refl;
  bytes = λ n. IsBytes-low_bytes (n ∷ n / 256 ^ 1 ∷ n / 256 ^ 2 ∷ n / 256 ^ 3 ∷ n / 256 ^ 4 ∷ n / 256 ^ 5 ∷ n / 256 ^ 6 ∷ n / 256 ^ 7 ∷ []);
}

-- The bytes of the n words f 0, f 1 and so on.
pub words_of : Width → (ℕ → ℕ) → ℕ → List ℕ
words_of w f zero = []
words_of w f (suc n) = words_of w f n ++ to_le_bytes w (f n)

module _ (w : Width) (writable : IsWritable w) (f : ℕ → ℕ) where
  pub length-words_of : (n : ℕ) → length (words_of w f n) ≡ n * byte_len w
  unfolding words_of
  length-words_of zero = sym (zero-mul (byte_len w))
  length-words_of (suc n) = length-append (words_of w f n) (to_le_bytes w (f n)) ∙ omega (arith, length-words_of n, writable.size (f n))

  pub IsBytes-words_of : (n : ℕ) → IsBytes (words_of w f n)
  unfolding words_of
  IsBytes-words_of zero = IsBytes-none
  IsBytes-words_of (suc n) = IsBytes-append (words_of w f n) (to_le_bytes w (f n)) (IsBytes-words_of n) (writable.bytes (f n))

  alone : (n : ℕ) → n < 2 ^ bits w → word_at w (to_le_bytes w n) 0 ≡ n
  unfolding word_at
  alone n fits = ap (from_le_bytes w) (take_all (byte_len w) (to_le_bytes w n) (omega (arith, writable.size n))) ∙ writable.back n fits

  word_at-words_of : (n j : ℕ) → j < n → f j < 2 ^ bits w → word_at w (words_of w f n) (j * byte_len w) ≡ f j
  unfolding words_of
  word_at-words_of zero j low fits = absurd (omega arith)
  word_at-words_of (suc n) j low fits = elim (eq-or-lt_of_le (let le : j ≤ n = omega arith in le)) [
    | inl last ↦
        let place : j * byte_len w ≡ length (words_of w f n) + 0 = ap (λ (i : ℕ). i * byte_len w) last ∙ omega (arith, length-words_of n) in
        rw (place, ← last) (rw last (word_at-append_right w (words_of w f n) (to_le_bytes w (f n)) 0) ∙ alone (f j) fits)
    | inr earlier ↦
        let rows : (j + 1) * byte_len w ≤ n * byte_len w = mul-le (j + 1) (byte_len w) n (byte_len w) (omega arith) (omega arith) in
        word_at-append w (words_of w f n) (to_le_bytes w (f n)) (j * byte_len w) (omega (arith, length-words_of n)) ∙ word_at-words_of n j earlier fits
  ]

-- ---- the word that takes an accumulator from one value to another

-- A word for each two values of the accumulator that leads from the first to the second.
pub record IsReaching (w : Width) (step : ℕ → ℕ → ℕ) : Type 0 where
  pub word : ℕ → ℕ → ℕ
  pub below : (a b : ℕ) → word a b < 2 ^ bits w
  pub leads : (a b : ℕ) → a < 2 ^ bits w → b < 2 ^ bits w → step a (word a b) ≡ b

-- Lemma: a round of both plain hashes reaches each value. q1 and q2 are the inverses of p1 and p2.
pub round_reaches : (w : Width) (r p1 q1 p2 q2 : ℕ) → 0 < r → r < bits w → q1 * p1 % 2 ^ bits w ≡ 1 → q2 * p2 % 2 ^ bits w ≡ 1
    → IsReaching w (λ a word. wrap_mul w (rotate_left w (wrap_add w a (wrap_mul w word p2)) r) p1)
round_reaches w r p1 q1 p2 q2 some less odd1 odd2 =
    let m = 2 ^ bits w in
    let turned : ℕ → ℕ = λ b. rotated (bits w) (b * q1 % m) r in
    let gap : ℕ → ℕ → ℕ = λ a b. (turned b + (m - a)) % m in
    record {
      word = λ a b. gap a b * q2 % m;
      below = λ a b. mod-lt (gap a b * q2) (pow_pos (bits w));
      leads = λ a b p q.
          let fits = mod-lt (b * q1) (pow_pos (bits w)) in
          let fits' : turned b < m = rotated-lt (bits w) (b * q1 % m) r fits in
          let whole : a + (turned b + (m - a)) ≡ m + turned b = omega arith in
          let product : gap a b * q2 % m * p2 % m ≡ gap a b = multiple_back q2 p2 m (gap a b) odd2 (mod-lt (turned b + (m - a)) (pow_pos (bits w))) in
          let sum : (a + gap a b) % m ≡ turned b = add-mod-mod a (turned b + (m - a)) m ∙ ap (λ (u : ℕ). u % m) whole ∙ add-mod_left m (turned b) ∙ mod-eq_of_lt fits' in
          let back : rotate_left w (turned b) r ≡ b * q1 % m = left_is_rotated w r (turned b) some less ∙ turned_back (bits w) r (b * q1 % m) (omega arith) fits in
          ap (λ (u : ℕ). rotate_left w ((a + u) % m) r * p1 % m) product
          ∙ ap (λ (u : ℕ). rotate_left w u r * p1 % m) sum
          ∙ ap (λ (u : ℕ). u * p1 % m) back
          ∙ multiple_back q1 p1 m b odd1 q;
    }

-- Lemma: word j of one block takes accumulator j from a j to c j.
pub accumulator_reached : (w : Width) → IsWritable w → (step : ℕ → ℕ → ℕ) (reaches : IsReaching w step) (a c : ℕ → ℕ) (n j : ℕ) → j < n → a j < 2 ^ bits w → c j < 2 ^ bits w
    → step (a j) (word_at w (words_of w (λ i. reaches.word (a i) (c i)) n) (j * byte_len w)) ≡ c j
accumulator_reached w writable step reaches a c n j low p q =
    ap (step (a j)) (word_at-words_of w writable (λ i. reaches.word (a i) (c i)) n j low (reaches.below (a j) (c j))) ∙ reaches.leads (a j) (c j) p q

-- ---- four accumulators

-- True if each of the four is a word.
pub record AreWords (w : Width) (a b c d : ℕ) : Type 0 where
  pub v1 : a < 2 ^ bits w
  pub v2 : b < 2 ^ bits w
  pub v3 : c < 2 ^ bits w
  pub v4 : d < 2 ^ bits w

module _ {C : Type 0} (w : Width) (writable : IsWritable w) (round : ℕ → ℕ → ℕ) (reaches : IsReaching w round) (core : ℕ → ℕ → ℕ → ℕ → C) (a b c d x y z t : ℕ) where
  -- The stripe that takes a, b, c and d to x, y, z and t.
  abbrev pub stripe_between : List ℕ
  stripe_between = words_of w (λ j. reaches.word (slice_index (a ∷ b ∷ c ∷ d ∷ []) j) (slice_index (x ∷ y ∷ z ∷ t ∷ []) j)) 4

  pub IsBytes-stripe_between : IsBytes stripe_between
  IsBytes-stripe_between = IsBytes-words_of w writable _ 4

  pub length-stripe_between : length stripe_between ≡ 4 * byte_len w
  length-stripe_between = length-words_of w writable _ 4

  pub four_reached : AreWords w a b c d → AreWords w x y z t → after_stripes w round core a b c d stripe_between 1 ≡ core x y z t
  unfolding after_units
  four_reached p q =
      let place = λ (j : ℕ). ap (λ (n : ℕ). n + j * byte_len w) (zero-mul (4 * byte_len w)) ∙ zero-add (j * byte_len w) in
      let reached = λ (j : ℕ) (low : j < 4).
      accumulator_reached w writable round reaches (slice_index (a ∷ b ∷ c ∷ d ∷ [])) (slice_index (x ∷ y ∷ z ∷ t ∷ [])) 4 j low in
      let e1 = ap (λ (i : ℕ). round a (word_at w stripe_between i)) (place 0) ∙ reached 0 (lit< tt) p.v1 q.v1 in
      let e2 = ap (λ (i : ℕ). round b (word_at w stripe_between i)) (place 1) ∙ reached 1 (lit< tt) p.v2 q.v2 in
      let e3 = ap (λ (i : ℕ). round c (word_at w stripe_between i)) (place 2) ∙ reached 2 (lit< tt) p.v3 q.v3 in
      let e4 = ap (λ (i : ℕ). round d (word_at w stripe_between i)) (place 3) ∙ reached 3 (lit< tt) p.v4 q.v4 in
      λ i. core (e1 i) (e2 i) (e3 i) (e4 i)

-- ---- the list of bytes

module _ {X : Type 0} (block : ℕ) (after : List ℕ → ℕ → X) (from : X → List ℕ → ℕ → X) (some : 0 < block)
    (longer : (m d : List ℕ) (k : ℕ) → k * block ≤ length m → after (m ++ d) k ≡ after m k)
    (one : (m d : List ℕ) (k : ℕ) → d ≡ take block (drop (k * block) m) → from (after m k) d 1 ≡ after m (k + 1)) where
  -- A block of bytes that takes the accumulators from k blocks of zeros to x.
  pub record LastBlock (x : X) (k : ℕ) : Type 0 where
    pub last : List ℕ
    pub bytes : IsBytes last
    pub size : length last ≡ block
    pub takes : from (after (replicate (k * block) 0) k) last 1 ≡ x

  module _ (h : BlockState X) (full : length h.buffer ≡ block) (short : h.usage < block) where
    in_use : length (take h.usage h.buffer) ≡ h.usage
    in_use = length-take-le h.usage h.buffer (omega arith)

    -- Lemma: a state with initial accumulators follows its bytes in use.
    short_followed : h.accumulators ≡ after [] 0 → Follows block after (take h.usage h.buffer) h
    short_followed initial =
        let rest = take h.usage h.buffer in
        let none : 0 * block ≡ 0 = zero-mul block in
        follows_from block after rest h 0 (omega (arith, in_use)) short (initial ∙ sym (longer [] rest 0 (omega arith))) (rw none refl)

    -- The list for other accumulators: k blocks of zeros, the block that leads to them, and the bytes in use.
    listed : (k : ℕ) → LastBlock h.accumulators k → List ℕ
    listed k l = replicate (k * block) 0 ++ (l.last ++ take h.usage h.buffer)

    length-listed : (k : ℕ) (l : LastBlock h.accumulators k) → length (listed k l) ≡ (k + 1) * block + h.usage
    unfolding listed
    length-listed k l =
        let rest = take h.usage h.buffer in
        length-append (replicate (k * block) 0) (l.last ++ rest) ∙ omega (arith, length-append l.last rest, length-replicate {A = ℕ} (k * block) 0, l.size, in_use)

    IsBytes-listed : (k : ℕ) (l : LastBlock h.accumulators k) → IsBytes h.buffer → IsBytes (listed k l)
    unfolding listed
    IsBytes-listed k l bytes =
        let rest = take h.usage h.buffer in
        IsBytes-append (replicate (k * block) 0) (l.last ++ rest) (IsBytes-zeros (k * block)) (IsBytes-append l.last rest l.bytes (IsBytes-part h.usage 0 h.buffer bytes))

    long_followed : (k : ℕ) (l : LastBlock h.accumulators k) → Follows block after (listed k l) h
    unfolding listed
    long_followed k l =
        let zeros : List ℕ = replicate (k * block) 0 in
        let rest = take h.usage h.buffer in
        let m = zeros ++ (l.last ++ rest) in
        let size : length zeros ≡ k * block = length-replicate (k * block) 0 in
        let end : k * block + block ≡ (k + 1) * block = omega arith in
        let left : drop (k * block) m ≡ l.last ++ rest = drop_at zeros (l.last ++ rest) (k * block) size in
        let next : l.last ≡ take block (drop (k * block) m) = rw left (sym (take_at l.last rest block l.size)) in
        let unused : rest ≡ drop ((k + 1) * block) m = rw (← end, ← drop-drop block (k * block) m, left) (sym (drop_at l.last rest block l.size)) in
        let before : after zeros k ≡ after m k = sym (longer zeros (l.last ++ rest) k (omega arith)) in
        follows_from block after m h (k + 1) (length-listed k l) short (sym l.takes ∙ ap (λ (x : X). from x l.last 1) before ∙ one m l.last k next) unused

  -- A list of bytes that has the count `total` and that the state follows.
  abbrev pub FollowsSome : ℕ → BlockState X → Type 0
  FollowsSome total h = (m : List ℕ) × IsBytes m × ((total ≡ counted (length m)) × Follows block after m h)

  short_some : (total : ℕ) (h : BlockState X) → h.accumulators ≡ after [] 0 → total < 2 ^ 64 - 1 → total ≡ h.usage → IsBytes h.buffer → length h.buffer ≡ block → h.usage < block → FollowsSome total h
  short_some total h initial exact count bytes full short = (
    take h.usage h.buffer,
    IsBytes-part h.usage 0 h.buffer bytes,
    (omega (arith, in_use h full short), short_followed h full short initial),
  )

  long_some : (total : ℕ) (h : BlockState X) (k : ℕ) → LastBlock h.accumulators k → total ≡ counted ((k + 1) * block + h.usage) → IsBytes h.buffer → length h.buffer ≡ block → h.usage < block → FollowsSome total h
  long_some total h k l count bytes full short = (
    listed h full short k l,
    IsBytes-listed h full short k l bytes,
    (count ∙ ap counted (sym (length-listed h full short k l)), long_followed h full short k l),
  )

  -- Lemma: a state whose usage and accumulators fit the count follows some list of bytes.
  pub some_followed : (total : ℕ) (h : BlockState X) → (total < 2 ^ 64 - 1 → h.usage ≡ total % block) → (total ≡ 2 ^ 64 - 1 → h.usage < block) → (total < block → h.accumulators ≡ after [] 0)
      → total < 2 ^ 64 → IsBytes h.buffer → length h.buffer ≡ block → ((k : ℕ) → LastBlock h.accumulators k) → FollowsSome total h
  some_followed total h known lost initial fits bytes full lasts = elim (cases_lt total (2 ^ 64 - 1)) [
    | inr most ↦
        let rows : 2 ^ 64 * 1 ≤ 2 ^ 64 * block = mul-le-mul_left (2 ^ 64) some in
        long_some total h (2 ^ 64) (lasts (2 ^ 64)) (omega arith) bytes full (lost (omega arith))
    | inl exact ↦
        let usage = known exact in
        let short : h.usage < block = rw usage (mod_below total block some) in
        elim (cases_lt total block) [
          | inl less ↦ short_some total h (initial less) exact (sym (usage ∙ mod-eq_of_lt less)) bytes full short
          | inr whole ↦
              let k = total / block - 1 in
              let blocks : 1 ≤ total / block = le-div 1 total block some (omega arith) in
              let next : k + 1 ≡ total / block = omega arith in
              let sum : (k + 1) * block + h.usage ≡ total = rw (next, usage) (div-add-mod' total block) in
              long_some total h k (lasts k) (omega arith) bytes full short
        ]
  ]
