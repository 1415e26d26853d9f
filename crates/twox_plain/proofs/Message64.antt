-- Lemmas on the list that a record of XXH64 represents, from call to call, and on the value of the message.
use Rattle.twox_plain.proofs.Prelude.{[], ◌%◌, ◌*◌, ◌++◌, ◌/◌, ◌<◌, ◌∙◌, ◌≡◌, List, ap, arith, cases_lt, counted, drop, false, if◌then◌else◌, inl, inr, length, length-drop, lit<, nat_lt, nat_tests, refl, true, w64, wrap_add, ℕ}
use Rattle.twox_plain.specs.Xxh64.{p5, convergence, start, after_tail, avalanche, xxh64}
use Rattle.twox_plain.specs.Core64.{core_of_stripes, core_after_stripes}
use Rattle.twox_plain.specs.Record64.{Represents, AgreeInUse, parts, initial_record, after_write, value_of, finish_value}
use Rattle.twox_plain.specs.declared.xxhash64.Core.{Core}
use Rattle.twox_plain.specs.declared.xxhash64.SavedState.{SavedState}
use Rattle.twox_plain.proofs.RecordFacts
use Rattle.twox_plain.proofs.Core64Facts.{core_of_stripes_longer, core_of_stripes_one, core_of_stripes_more}
use Rattle.twox_plain.proofs.Tail64.{after_tail-drop}

-- Lemma: the initial record represents the empty list.
pub initial_record_stands : (seed : ℕ) → Represents (initial_record seed) []
unfolding Represents
initial_record_stands seed = (refl, record { whole = refl; left = refl; bytes = refl })

-- Lemma: a record that represents m represents m ++ d after a write of d.
pub after_write_stands : (s : SavedState) (m d : List ℕ) → length s.buffer ≡ 32 → Represents s m → Represents (after_write s d) (m ++ d)
unfolding Represents after_write
after_write_stands s m d size stands =
    RecordFacts.after_write_stands 32 core_of_stripes core_after_stripes (lit< tt) core_of_stripes_longer core_of_stripes_one core_of_stripes_more (parts s) m d size stands

-- Lemma: the value before the tail is start seed m, with or without a stripe.
starts : (seed : ℕ) (m : List ℕ) (core : Core) → core ≡ core_of_stripes seed m (length m / 32)
    → let len = counted (length m) in
    wrap_add w64 (if nat_lt len 32 then wrap_add w64 seed p5 else convergence core.v1 core.v2 core.v3 core.v4) len ≡ start seed m
unfolding start core_of_stripes
starts seed m core at = elim (cases_lt (length m) 32) [
  | inl short ↦
      let test : nat_lt (length m) 32 ≡ true = grind (arith, nat_tests) in
      let test2 : nat_lt (counted (length m)) 32 ≡ true = grind (arith, nat_tests) in
      rw (test, test2) refl
  | inr long ↦
      let test : nat_lt (length m) 32 ≡ false = grind (arith, nat_tests) in
      let test2 : nat_lt (counted (length m)) 32 ≡ false = grind (arith, nat_tests) in
      rw (test, test2, at) refl
]

-- Lemma: the value from the accumulators of m and the bytes that fill no stripe is xxh64 seed m.
pub value_of_message : (seed : ℕ) (m rest : List ℕ) (len : ℕ) (core : Core) → len ≡ counted (length m) → core ≡ core_of_stripes seed m (length m / 32) → rest ≡ drop (length m / 32 * 32) m
    → value_of seed len core rest ≡ xxh64 seed m
unfolding value_of xxh64
value_of_message seed m rest len core count at cut =
    let left : length rest ≡ length m % 32 = ap length cut ∙ omega (arith, length-drop (length m / 32 * 32) m) in
    rw (count, starts seed m core at, left, cut) (ap avalanche (after_tail-drop (length m / 32 * 32) m (start seed m) (length m % 32)))

pub finish_value_of_message : (s : SavedState) (m : List ℕ) → Represents s m → finish_value s ≡ xxh64 s.seed m
unfolding Represents
finish_value_of_message s m stands = value_of_message s.seed m _ s.total_len s.core stands.0 stands.1.whole stands.1.bytes

-- Lemma: the value of a message shorter than a stripe comes only from its seed, length and tail.
pub short_message : (seed : ℕ) (m : List ℕ) → length m < 32 → avalanche (after_tail m 0 (wrap_add w64 (wrap_add w64 seed p5) (length m)) (length m)) ≡ xxh64 seed m
unfolding value_of
short_message seed m short =
    let none : length m / 32 ≡ 0 = omega arith in
    let len : counted (length m) ≡ length m = omega arith in
    let test : nat_lt (counted (length m)) 32 ≡ true = grind (arith, nat_tests) in
    rw (test, len) at (value_of_message seed m m (counted (length m)) (core_of_stripes seed m (length m / 32)) refl refl (rw none refl))

-- Lemma: records that agree in use agree in use after the same chunk, and have equal values.
pub after_write_agree : (r s : SavedState) (d : List ℕ) → length r.buffer ≡ 32 → r.buffer_usage < 32 → AgreeInUse r s
    → AgreeInUse (after_write r d) (after_write s d)
unfolding after_write
after_write_agree r s = RecordFacts.after_write_agree 32 core_after_stripes (parts r) (parts s)

pub finish_value_agree : (r s : SavedState) → AgreeInUse r s → finish_value s ≡ finish_value r
finish_value_agree r s agree = rw (agree.total_len, agree.seed, agree.state.accumulators, agree.state.bytes) refl

pub AgreeInUse-same : (r s : SavedState) → s ≡ r → AgreeInUse r s
AgreeInUse-same r s same = RecordFacts.AgreeInUse-same (parts r) (parts s) (ap parts same)
