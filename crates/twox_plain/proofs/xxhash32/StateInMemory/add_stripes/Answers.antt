use Rattle.twox_plain.proofs.Prelude.{◌*◌, ◌++◌, ◌/◌, ◌<◌, ◌≡◌, List, SavedState, arith, drop, length, length-drop, refl, ℕ}
use Rattle.twox_plain.specs.Core32.{core_after_stripes}
use Rattle.twox_plain.specs.Units.{after_units}
use Rattle.twox_plain.specs.StateInMemory32.{after_rest}
use Rattle.twox_plain.proofs.Usage32.{usage_marked}
use Rattle.twox_plain.proofs.xxhash32.StateInMemory.add_stripes.Goals as goal
use Rattle.twox_plain.proofs.xxhash32.StateInMemory.add_stripes.Goals.{then-input-ge-BYTES_IN_STRIPE, else-input-ge-BYTES_IN_STRIPE}

-- Lemma: a rest shorter than a stripe is only written to the buffer.
after_short_rest : (s : SavedState) (d : List ℕ) → length d < 16 → after_rest s d ≡ record s { buffer = d ++ drop (length d) s.buffer; buffer_usage = length d }
unfolding after_rest core_after_stripes after_units
after_short_rest s d short =
    let none : length d / 16 ≡ 0 = omega arith in
    rw none refl

pub returns : goal.returns
unfolding after_rest
returns c =
    let d = c.args.input.now in
    let rest = c.if-input-ge-BYTES_IN_STRIPE.rest.now in
    let less : length rest < 16 = elim c.if-input-ge-BYTES_IN_STRIPE.branch [
      | then-input-ge-BYTES_IN_STRIPE w ↦ rw (w.rest-is, w.write_of_stream-rest.ensures.rest) (omega (arith, length-drop (length d / 16 * 16) d))
      | else-input-ge-BYTES_IN_STRIPE w ↦ rw w.rest-is (omega arith)
    ] in
    let kept = usage_marked (length rest) (omega arith) in
    elim c.if-input-ge-BYTES_IN_STRIPE.branch [
      | then-input-ge-BYTES_IN_STRIPE w ↦ record {
        exact = rw (c.keep.ensures, kept, w.rest-is, w.self-is, w.set_core.ensures, w.write_of_stream-rest.ensures.accumulators, w.write_of_stream-rest.ensures.rest, w.core-core.ensures) refl;
        seed = rw (c.keep.ensures, w.self-is, w.set_core.ensures) refl;
        in_range = rw (c.keep.ensures, kept) less;
      }
      | else-input-ge-BYTES_IN_STRIPE w ↦ record {
        exact = rw (after_short_rest _ d (omega arith), c.keep.ensures, kept, w.rest-is, w.self-is) refl;
        seed = rw (c.keep.ensures, w.self-is) refl;
        in_range = rw (c.keep.ensures, kept) less;
      }
    ]
