use Rattle.twox_plain.proofs.Prelude.{◌*◌, ◌+◌, ◌/◌, ◌≡◌, length, slice_index, w32}
use Rattle.twox_words.specs.Word.{word_at}
use Rattle.twox_plain.specs.Units.{after_units}
use Rattle.twox_plain.specs.Xxh32.{take_word, take_byte, after_words}
use Rattle.twox_plain.proofs.xxhash32.rounds.after_tail.Given as goal

abbrev pub invariant-words : goal.invariant-words
invariant-words l = l.value ≡ after_units take_word (λ u. word_at w32 l.rest (0 + u * 4)) l.fn.value l.u

abbrev pub invariant-bytes : goal.invariant-bytes
invariant-bytes l = l.value ≡ after_units take_byte (λ u. slice_index l.rest (0 + length l.rest / 4 * 4 + u)) (after_words l.rest 0 l.fn.value (length l.rest)) l.u
