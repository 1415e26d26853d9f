use Rattle.twox_plain.proofs.Prelude.{◌*◌, ◌+◌, ◌/◌, ◌∙◌, ap, ap₂, arith, length, refl, slice_index, sym, w32}
use Rattle.twox_words.specs.Word.{word_at}
use Rattle.twox_plain.specs.Units.{after_units}
use Rattle.twox_plain.specs.Xxh32.{take_word, take_byte, after_words, after_tail}
use Rattle.twox_plain.proofs.UnitFacts.{after_units_next}
use Rattle.twox_plain.proofs.xxhash32.rounds.after_tail.Goals as goal

pub words-init : goal.words-init
unfolding after_units
words-init c = refl

pub words-preserved : goal.words-preserved
words-preserved c =
    c.take_word-value.ensures
    ∙ ap₂ take_word c.words.invariant (c.u32_at.ensures ∙ ap (word_at w32 c.args.rest.now) (omega arith))
    ∙ sym (after_units_next take_word (λ u. word_at w32 c.args.rest.now (0 + u * 4)) c.args.value c.words.u)

pub bytes-init : goal.bytes-init
unfolding after_units after_words
bytes-init c = c.words.invariant ∙ ap (after_units take_word (λ u. word_at w32 c.args.rest.now (0 + u * 4)) c.args.value) (omega arith)

pub bytes-preserved : goal.bytes-preserved
bytes-preserved c =
    let rest = c.args.rest.now in
    c.take_byte-value.ensures
    ∙ ap₂ take_byte c.bytes.invariant (ap (slice_index rest) (omega arith))
    ∙ sym (after_units_next take_byte (λ u. slice_index rest (0 + length rest / 4 * 4 + u)) (after_words rest 0 c.args.value (length rest)) c.bytes.u)

pub returns : goal.returns
unfolding after_tail
returns c =
    let rest = c.args.rest.now in
    c.bytes.invariant ∙ ap (after_units take_byte (λ u. slice_index rest (0 + length rest / 4 * 4 + u)) (after_words rest 0 c.args.value (length rest))) (omega arith)
