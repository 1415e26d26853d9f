-- The record of an XXH64 hasher: the lists of bytes that it represents, and the effect of each call.
use Rattle.std.specs.Prelude.{ℕ, List, length, take, nat_lt, Bool, ◌==◌, codes, if◌then◌else◌}
use Rattle.std.specs.Cmp.Lexicographic.{pointwise}
use Rattle.std.specs.Ordering.{on, eq_of_both}
use Rattle.std.specs.Int.{w64}
use Rattle.twox_words.specs.Word.{IsBytes, wrap_add}
use Rattle.twox_plain.specs.Xxh64.{p5, convergence, after_tail, avalanche}
use Rattle.twox_plain.specs.Core64.{core_of_stripes, core_after_stripes}
use Rattle.twox_plain.specs.Record as Plain
use Rattle.twox_plain.specs.declared.xxhash64.Core.{Core}
use Rattle.twox_plain.specs.declared.xxhash64.SavedState.{SavedState}
use Rattle.twox_plain.specs.declared.xxhash64.RestoreError.{RestoreError}
use Rattle.twox_plain.specs.declared.xxhash64.RestoreError.TheVariants.{BufferUsage, Core as WrongCore}

-- the record as the parts that both plain hashes have, and back
abbrev pub parts : SavedState → Plain.Record Core
parts s = record {
  total_len = s.total_len;
  seed = s.seed;
  state = record { accumulators = s.core; buffer = s.buffer; usage = s.buffer_usage };
}

abbrev pub record_of_parts : Plain.Record Core → SavedState
record_of_parts r = record {
  total_len = r.total_len;
  seed = r.seed;
  core = r.state.accumulators;
  buffer = r.state.buffer;
  buffer_usage = r.state.usage;
}

-- the record represents m: it has counted m, and its accumulators and its buffer follow m under its seed
unfoldable pub Represents : SavedState → List ℕ → Type 0
Represents s m = Plain.Represents 32 core_of_stripes (parts s) m

-- the record represents some list of bytes
abbrev pub IsReachable : SavedState → Type 0
IsReachable s = (m : List ℕ) × IsBytes m × Represents s m

-- the record of no bytes
abbrev pub initial_record : ℕ → SavedState
initial_record seed = record_of_parts (Plain.initial_record 32 core_of_stripes seed)

-- the record after one more chunk, exactly
unfoldable pub after_write : SavedState → List ℕ → SavedState
after_write s d = record_of_parts (Plain.after_write 32 core_after_stripes (parts s) d)

-- the value from the counted length, the accumulators and the bytes that fill no stripe
unfoldable pub value_of : ℕ → ℕ → Core → List ℕ → ℕ
value_of seed len core rest =
    let start = if nat_lt len 32 then wrap_add w64 seed p5 else convergence core.v1 core.v2 core.v3 core.v4 in
    avalanche (after_tail rest 0 (wrap_add w64 start len) (length rest))

-- the value that the record's hasher returns
abbrev pub finish_value : SavedState → ℕ
finish_value s = value_of s.seed s.total_len s.core (take s.buffer_usage s.buffer)

-- the buffer usage agrees with the length, and accumulators that have taken no stripe with the seed
abbrev pub UsageFits : SavedState → Type 0
UsageFits s = Plain.UsageFits 32 (parts s)

abbrev pub CoreFits : SavedState → Type 0
CoreFits s = Plain.CoreFits 32 core_of_stripes (parts s)

-- the records agree except in bytes of the buffer that are not in use
abbrev pub AgreeInUse : SavedState → SavedState → Type 0
AgreeInUse r s = Plain.AgreeInUse (parts r) (parts s)

-- the accumulators are equal
abbrev pub cores_equal : Core → Core → Bool
cores_equal =
    eq_of_both (on (λ c. c.v1) ◌==◌)
    (eq_of_both (on (λ c. c.v2) ◌==◌)
    (eq_of_both (on (λ c. c.v3) ◌==◌)
    (on (λ c. c.v4) ◌==◌)))

-- the records are equal in every field, the bytes of the buffer that are not in use included
abbrev pub records_equal : SavedState → SavedState → Bool
records_equal =
    eq_of_both (on (λ s. s.total_len) ◌==◌)
    (eq_of_both (on (λ s. s.seed) ◌==◌)
    (eq_of_both (on (λ s. s.core) cores_equal)
    (eq_of_both (on (λ s. s.buffer) (pointwise ◌==◌))
    (on (λ s. s.buffer_usage) ◌==◌))))

-- the text of the error that refuses a record
abbrev pub restore_error_text : RestoreError → List ℕ
restore_error_text BufferUsage = codes "The buffer usage does not match the total length"
restore_error_text WrongCore = codes "The core does not match the seed"
