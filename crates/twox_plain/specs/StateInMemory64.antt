-- The record of a hasher, from its fields in their order in memory.
use Rattle.std.specs.Prelude.{◌≡◌, ℕ, List, ◌++◌, ◌*◌, ◌/◌, ◌<◌, drop, length}
use Rattle.std.specs.Int.{w32}
use Rattle.twox_words.specs.Word.{wrap_sub}
use Rattle.twox_plain.specs.Core64.{core_after_stripes}
use Rattle.twox_plain.specs.declared.xxhash64.SavedState.{SavedState}
use Rattle.twox_plain.specs.declared.xxhash64.StateInMemory.{StateInMemory}
use Rattle.twox_plain.specs.declared.xxhash64.TheConstants.{MARK}

-- the number of buffered bytes: a stripe or more if the memory has no mark
abbrev pub usage_of : StateInMemory → ℕ
usage_of a = wrap_sub w32 a.marked_usage MARK

abbrev pub record_of : StateInMemory → SavedState
record_of a = record {
  total_len = a.total_len;
  seed = a.seed;
  core = record { v1 = a.v1; v2 = a.v2; v3 = a.v3; v4 = a.v4 };
  buffer = a.buffer;
  buffer_usage = usage_of a;
}

-- the record after d, the rest of a chunk whose length is already counted, if no byte is buffered
unfoldable pub after_rest : SavedState → List ℕ → SavedState
after_rest s d =
    let rest = drop (length d / 32 * 32) d in
    record s {
      core = core_after_stripes s.core d (length d / 32);
      buffer = rest ++ drop (length rest) s.buffer;
      buffer_usage = length rest;
    }

-- b is the memory a after such a rest d
pub record AfterRest (a : StateInMemory) (d : List ℕ) (b : StateInMemory) : Type 0 where
  pub exact : record_of b ≡ after_rest (record_of a) d
  pub seed : b.seed ≡ a.seed
  pub in_range : usage_of b < 32
