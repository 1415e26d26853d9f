-- Lemmas on four accumulators that take whole stripes of four words, for any width of the words, any round, and any
-- type that holds the four accumulators.
use Rattle.twox_plain.proofs.Prelude.{◌*◌, ◌++◌, ◌+◌, ◌∙◌, ◌≡◌, ◌≤◌, List, Width, arith, byte_len, drop, length, sym, take, take-append-drop, ℕ}
use Rattle.twox_words.specs.Word.{word_at}
use Rattle.twox_plain.specs.Units.{after_units}
use Rattle.twox_plain.proofs.UnitFacts.{words_one, words_more, words_longer}

module _ {C : Type 0} (w : Width) (round : ℕ → ℕ → ℕ) (core : ℕ → ℕ → ℕ → ℕ → C) where
  abbrev stripe : ℕ
  stripe = 4 * byte_len w

  -- Accumulator j after k stripes of m, starting from x.
  abbrev after_words : ℕ → ℕ → List ℕ → ℕ → ℕ
  after_words j x m k = after_units round (λ i. word_at w m (i * stripe + j * byte_len w)) x k

  -- The four accumulators after k stripes of m, starting from a, b, c and d.
  abbrev pub after_stripes : ℕ → ℕ → ℕ → ℕ → List ℕ → ℕ → C
  after_stripes a b c d m k = core (after_words 0 a m k) (after_words 1 b m k) (after_words 2 c m k) (after_words 3 d m k)

  module _ (a b c d : ℕ) (m : List ℕ) (k : ℕ) where
    -- Lemma: one more stripe after k stripes gives k + 1 stripes.
    pub after_stripes_one : (part : List ℕ) → part ≡ take stripe (drop (k * stripe) m)
        → after_stripes (after_words 0 a m k) (after_words 1 b m k) (after_words 2 c m k) (after_words 3 d m k) part 1 ≡ after_stripes a b c d m (k + 1)
    after_stripes_one part e =
        let one = λ (j x : ℕ) (inside : j * byte_len w + byte_len w ≤ stripe). words_one w round x m part k stripe (j * byte_len w) e inside in
        λ i. core (one 0 a (omega arith) i) (one 1 b (omega arith) i) (one 2 c (omega arith) i) (one 3 d (omega arith) i)

    -- Lemma: n stripes of the bytes after the first k stripes give k + n stripes.
    pub after_stripes_more : (rest : List ℕ) (n : ℕ) → rest ≡ drop (k * stripe) m
        → after_stripes (after_words 0 a m k) (after_words 1 b m k) (after_words 2 c m k) (after_words 3 d m k) rest n ≡ after_stripes a b c d m (k + n)
    after_stripes_more rest n e =
        let more = λ (j x : ℕ). words_more w round x m rest k n stripe (j * byte_len w) e in
        λ i. core (more 0 a i) (more 1 b i) (more 2 c i) (more 3 d i)

    -- Lemma: bytes appended to m don't change the accumulators after k stripes of m.
    pub after_stripes_longer : (more : List ℕ) → k * stripe ≤ length m → after_stripes a b c d (m ++ more) k ≡ after_stripes a b c d m k
    after_stripes_longer more within =
        let longer = λ (j x : ℕ) (inside : j * byte_len w + byte_len w ≤ stripe). words_longer w round m more x k stripe (j * byte_len w) inside within in
        λ i. core (longer 0 a (omega arith) i) (longer 1 b (omega arith) i) (longer 2 c (omega arith) i) (longer 3 d (omega arith) i)

  -- Lemma: n stripes, read from a part that has only these, give k + n stripes.
  pub after_stripes_part : (a b c d : ℕ) (m part : List ℕ) (k n : ℕ) → part ≡ take (n * stripe) (drop (k * stripe) m) → n * stripe ≤ length part
      → after_stripes (after_words 0 a m k) (after_words 1 b m k) (after_words 2 c m k) (after_words 3 d m k) part n ≡ after_stripes a b c d m (k + n)
  after_stripes_part a b c d m part k n e whole =
      let later = drop (n * stripe) (drop (k * stripe) m) in
      let joined : part ++ later ≡ drop (k * stripe) m = rw e (take-append-drop (n * stripe) (drop (k * stripe) m)) in
      sym (after_stripes_longer (after_words 0 a m k) (after_words 1 b m k) (after_words 2 c m k) (after_words 3 d m k) part n later whole)
      ∙ after_stripes_more a b c d m k (part ++ later) n joined
