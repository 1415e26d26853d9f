-- Lemmas on the texts and values of records, and on reading them back, for both plain hashes.
use Rattle.twox_plain.proofs.Prelude.{◌<◌, ◌^◌, ◌≡◌, ◌≤◌, Data, List, Option, Some, arith, compact_text, depth, false, has_float, lit≤, max_depth, nat_lt, nat_tests, refl, true, ℕ}
use Rattle.serde_json.proofs.OnLiterals.{serde_json_on_literals}
use Rattle.twox_plain.specs.SavedText.{bytes_of_data, bytes_data, core_of_data, record_of_data, core_text, saved_text, core_data, record_data}
use Rattle.twox_plain.proofs.ByteTexts.{no_float, flat, array_of}

module _ (total_len seed a b c d : ℕ) (buffer : List ℕ) (usage : ℕ) where
  pub has_no_float : has_float (record_data total_len seed (core_data a b c d) (bytes_data buffer) usage) ≡ false
  has_no_float = rw (no_float buffer) refl

  pub shallow : depth (record_data total_len seed (core_data a b c d) (bytes_data buffer) usage) ≤ max_depth
  shallow = rw (flat buffer) (lit≤ tt)

  -- Lemma: the compact text of a record's value is its saved text.
  pub compact_text-record_data : compact_text (record_data total_len seed (core_data a b c d) (bytes_data buffer) usage) ≡ saved_text total_len seed (core_text a b c d) buffer usage
  unfolding serde_json_on_literals
  compact_text-record_data = rw (← array_of buffer) refl

-- Lemma: a number in the range of its type passes the range test, as each number that is read back must.
test : (x n : ℕ) → x < n → nat_lt x n ≡ true
test x n small = grind (arith, nat_tests)

pub core_of_data-core_data : {C : Type 0} (limit : ℕ) (core : ℕ → ℕ → ℕ → ℕ → C) (a b c d : ℕ) → a < limit → b < limit → c < limit → d < limit
    → core_of_data limit core (core_data a b c d) ≡ Some (core a b c d)
unfolding serde_json_on_literals
core_of_data-core_data limit core a b c d small_a small_b small_c small_d =
    rw (test a limit small_a, test b limit small_b, test c limit small_c, test d limit small_d) refl

pub record_of_data-record_data : {C S : Type 0} (limit stripe : ℕ) (core_of : Data → Option C) (record_of : ℕ → ℕ → C → List ℕ → ℕ → S)
    (total_len seed : ℕ) (core : C) (data_of_core : Data) (buffer : List ℕ) (usage : ℕ) → bytes_of_data stripe (bytes_data buffer) ≡ Some buffer → core_of data_of_core ≡ Some core
    → usage < 2 ^ 64 → seed < limit → total_len < 2 ^ 64
    → record_of_data limit stripe core_of record_of (record_data total_len seed data_of_core (bytes_data buffer) usage) ≡ Some (record_of total_len seed core buffer usage)
unfolding serde_json_on_literals
record_of_data-record_data limit stripe core_of record_of total_len seed core data_of_core buffer usage bytes accumulators small_usage small_seed small_len =
    rw (bytes, accumulators, test usage (2 ^ 64) small_usage, test seed limit small_seed, test total_len (2 ^ 64) small_len) refl
