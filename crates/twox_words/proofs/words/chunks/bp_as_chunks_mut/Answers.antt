use Rattle.std.proofs.Common.{◌*◌, ◌/◌, length, length-drop, refl, sym, ap, ◌∙◌}
use Rattle.std.proofs.Math.Nat.{mod-eq-sub-div-mul}
use Rattle.twox_words.proofs.WordFacts.{first_chunks_take}
use Rattle.twox_words.proofs.words.chunks.bp_as_chunks_mut.Goals as goal

-- The chunks of the elements before the rest are the chunks of all elements.
pub returns : goal.returns
returns g c =
    let items = c.args.items.now in
    let n = g.row.N in
    let lent = c.chunks_and_rest_mut.ensures.value in (
      ((refl, refl), (λ x y. refl)),
      record {
        writes_back = tt;
        chunks = lent.0 ∙ first_chunks_take n (length items / n) items;
        count = lent.1;
        rest = lent.2;
        rest_count = ap length lent.2 ∙ length-drop (length items / n * n) items ∙ sym (mod-eq-sub-div-mul (length items) n);
      },
    )
