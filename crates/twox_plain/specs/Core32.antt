-- The four accumulators of XXH32 side by side, as the code keeps them.
use Rattle.std.specs.Prelude.{ℕ, List, ◌+◌, ◌*◌}
use Rattle.std.specs.Int.{w32}
use Rattle.twox_words.specs.Word.{word_at}
use Rattle.twox_plain.specs.Units.{after_units}
use Rattle.twox_plain.specs.Xxh32.{accumulator, round}
use Rattle.twox_plain.specs.declared.xxhash32.Core.{Core}

-- the accumulators of the seed and m after k stripes
unfoldable pub core_of_stripes : ℕ → List ℕ → ℕ → Core
core_of_stripes seed m k = record {
  v1 = accumulator seed m 0 k;
  v2 = accumulator seed m 1 k;
  v3 = accumulator seed m 2 k;
  v4 = accumulator seed m 3 k;
}

-- the accumulators c after the first k stripes of d
unfoldable pub core_after_stripes : Core → List ℕ → ℕ → Core
core_after_stripes c d k = record {
  v1 = after_units round (λ i. word_at w32 d (i * 16 + 0)) c.v1 k;
  v2 = after_units round (λ i. word_at w32 d (i * 16 + 4)) c.v2 k;
  v3 = after_units round (λ i. word_at w32 d (i * 16 + 8)) c.v3 k;
  v4 = after_units round (λ i. word_at w32 d (i * 16 + 12)) c.v4 k;
}
