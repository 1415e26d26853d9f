-- The record of a hasher, from its fields in their order in memory.
use Rattle.std.specs.Prelude.{◌≡◌, ℕ, List, ◌++◌, ◌+◌, ◌*◌, ◌/◌, ◌^◌, ◌<◌, drop, length}
use Rattle.std.specs.Int.{w32}
use Rattle.twox_words.specs.Word.{wrap_sub}
use Rattle.twox_plain.specs.Core32.{core_after_stripes}
use Rattle.twox_plain.specs.Record32.{after_write}
use Rattle.twox_plain.specs.declared.xxhash32.SavedState.{SavedState}
use Rattle.twox_plain.specs.declared.xxhash32.StateInMemory.{StateInMemory}
use Rattle.twox_plain.specs.declared.xxhash32.TheConstants.{MARK}

-- the number of buffered bytes: a stripe or more if the memory has no mark
abbrev pub usage_of : StateInMemory → ℕ
usage_of a = wrap_sub w32 a.marked_usage MARK

-- the counted length, from its halves
abbrev pub total_of : StateInMemory → ℕ
total_of a = a.total_high * 2 ^ 32 + a.total_low

abbrev pub record_of : StateInMemory → SavedState
record_of a = record {
  total_len = total_of a;
  seed = a.seed;
  core = record { v1 = a.v1; v2 = a.v2; v3 = a.v3; v4 = a.v4 };
  buffer = a.buffer;
  buffer_usage = usage_of a;
}

-- the record after d, the rest of a chunk whose length is already counted, if no byte is buffered
unfoldable pub after_rest : SavedState → List ℕ → SavedState
after_rest s d =
    let rest = drop (length d / 16 * 16) d in
    record s {
      core = core_after_stripes s.core d (length d / 16);
      buffer = rest ++ drop (length rest) s.buffer;
      buffer_usage = length rest;
    }

-- b is the memory a after such a rest d
pub record AfterRest (a : StateInMemory) (d : List ℕ) (b : StateInMemory) : Type 0 where
  pub exact : record_of b ≡ after_rest (record_of a) d
  pub seed : b.seed ≡ a.seed
  pub in_range : usage_of b < 16

-- b is the memory a after the chunk d
pub record AfterPiece (a : StateInMemory) (d : List ℕ) (b : StateInMemory) : Type 0 where
  pub exact : record_of b ≡ after_write (record_of a) d
  pub seed : b.seed ≡ a.seed
  pub in_range : usage_of b < 16
