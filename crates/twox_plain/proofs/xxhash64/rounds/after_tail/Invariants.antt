use Rattle.twox_plain.proofs.Prelude.{◌*◌, ◌+◌, ◌/◌, ◌≡◌, length, slice_index, w64}
use Rattle.twox_words.specs.Word.{word_at}
use Rattle.twox_plain.specs.Units.{after_units}
use Rattle.twox_plain.specs.Xxh64.{take_eight, take_byte, after_words}
use Rattle.twox_plain.proofs.xxhash64.rounds.after_tail.Given as goal

abbrev pub invariant-eights : goal.invariant-eights
invariant-eights l = l.value ≡ after_units take_eight (λ u. word_at w64 l.rest (0 + u * 8)) l.fn.value l.u

abbrev pub invariant-bytes : goal.invariant-bytes
invariant-bytes l = l.value ≡ after_units take_byte (λ u. slice_index l.rest (0 + length l.rest / 4 * 4 + u)) (after_words l.rest 0 l.fn.value (length l.rest)) l.u
