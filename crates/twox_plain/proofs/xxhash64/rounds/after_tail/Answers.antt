use Rattle.twox_plain.proofs.Prelude.{◌*◌, ◌+◌, ◌/◌, ◌∙◌, ◌≡◌, ap, ap₂, arith, length, refl, slice_index, sym, w32, w64}
use Rattle.twox_words.specs.Word.{word_at}
use Rattle.twox_plain.specs.Units.{after_units}
use Rattle.twox_plain.specs.Xxh64.{take_eight, take_four, take_byte, after_eights, after_words, after_tail}
use Rattle.twox_plain.proofs.UnitFacts.{after_units_next}
use Rattle.twox_plain.proofs.Tail64.{after_words_short, after_words_long}
use Rattle.twox_plain.proofs.xxhash64.rounds.after_tail.Goals as goal
use Rattle.twox_plain.proofs.xxhash64.rounds.after_tail.Goals.{then-rest-ge4, else-rest-ge4}

pub eights-init : goal.eights-init
unfolding after_units
eights-init c = refl

pub eights-preserved : goal.eights-preserved
eights-preserved c =
    c.take_eight-value.ensures
    ∙ ap₂ take_eight c.eights.invariant (c.u64_at.ensures ∙ ap (word_at w64 c.args.rest.now) (omega arith))
    ∙ sym (after_units_next take_eight (λ u. word_at w64 c.args.rest.now (0 + u * 8)) c.args.value c.eights.u)

pub bytes-init : goal.bytes-init
unfolding after_units after_eights
bytes-init c =
    let n = length c.args.rest.now in
    let eights : c.eights.value ≡ after_eights c.args.rest.now 0 c.args.value n =
    c.eights.invariant ∙ ap (after_units take_eight (λ u. word_at w64 c.args.rest.now (0 + u * 8)) c.args.value) (omega arith) in
    elim c.if-rest-ge4.branch [
      | then-rest-ge4 w ↦
          w.value-is ∙ w.take_four-value.ensures
          ∙ ap₂ take_four eights (w.u32_at.ensures ∙ ap (word_at w32 c.args.rest.now) (omega arith))
          ∙ sym (after_words_long c.args.rest.now 0 c.args.value n (omega arith))
      | else-rest-ge4 w ↦ w.value-is ∙ eights ∙ sym (after_words_short c.args.rest.now 0 c.args.value n (omega arith))
    ]

pub bytes-preserved : goal.bytes-preserved
bytes-preserved c =
    let rest = c.args.rest.now in
    c.take_byte-value.ensures
    ∙ ap₂ take_byte c.bytes.invariant (ap (slice_index rest) (omega arith))
    ∙ sym (after_units_next take_byte (λ u. slice_index rest (0 + length rest / 4 * 4 + u)) (after_words rest 0 c.args.value (length rest)) c.bytes.u)

pub returns : goal.returns
unfolding after_tail
returns c =
    let rest = c.args.rest.now in
    c.bytes.invariant ∙ ap (after_units take_byte (λ u. slice_index rest (0 + length rest / 4 * 4 + u)) (after_words rest 0 c.args.value (length rest))) (omega arith)
