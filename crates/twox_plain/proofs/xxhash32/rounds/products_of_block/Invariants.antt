use Rattle.twox_plain.proofs.Prelude.{◌*◌, ◌<◌, ◌≡◌, length, p2, slice_index, w32, ℕ}
use Rattle.twox_words.specs.Word.{word_at, wrap_mul}
use Rattle.twox_plain.proofs.xxhash32.rounds.products_of_block.Given as goal

abbrev pub invariant-words : goal.invariant-words
invariant-words l = record {
  count : length l.products ≡ 32;
  made : (j : ℕ) → j < l.i → slice_index l.products j ≡ wrap_mul w32 (word_at w32 l.block (j * 4)) p2;
}
