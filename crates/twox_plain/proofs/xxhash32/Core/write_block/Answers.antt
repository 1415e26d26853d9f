use Rattle.twox_plain.proofs.Prelude.{◌*◌, ◌+◌, ◌<◌, ◌∙◌, ◌≡◌, Core, ap, arith, p2, refl, round, sym, w32, ℕ}
use Rattle.twox_words.specs.Word.{word_at, wrap_mul}
use Rattle.twox_plain.specs.Units.{after_units}
use Rattle.twox_plain.specs.Core32.{core_after_stripes}
use Rattle.twox_plain.proofs.UnitFacts.{after_units_next}
use Rattle.twox_plain.proofs.Core32Facts.{core_of}
use Rattle.twox_plain.proofs.xxhash32.Core.write_block.Goals as goal

pub stripes-init : goal.stripes-init
unfolding core_after_stripes after_units
stripes-init c = refl

pub stripes-preserved : goal.stripes-preserved
unfolding core_after_stripes
stripes-preserved c =
    let m = c.args.block.now in
    let i = c.stripes.i in
    let word = λ (at n : ℕ). word_at w32 m (n * 16 + at) in
    let product = λ (n at : ℕ) (low : n < 32) (place : n * 4 ≡ i * 16 + at).
    c.products_of_block-products.ensures n low ∙ ap (λ (p : ℕ). wrap_mul w32 (word_at w32 m p) p2) place in
    let next = λ (a v r at : ℕ) (before : v ≡ after_units round (word at) a i) (taken : r ≡ round v (word at i)).
    taken ∙ ap (λ (x : ℕ). round x (word at i)) before ∙ sym (after_units_next round (word at) a i) in
    let before = c.stripes.invariant in
    let first = next c.args.self.now.v1 c.stripes.self.v1 c.add_product-self.result 0 (ap (λ (x : Core). x.v1) before)
    (c.add_product-self.ensures (word 0 i) (product (i * 4) 0 (omega arith) (omega arith))) in
    let second = next c.args.self.now.v2 c.stripes.self.v2 c.add_product-self-in-stripes.result 4 (ap (λ (x : Core). x.v2) before)
    (c.add_product-self-in-stripes.ensures (word 4 i) (product (i * 4 + 1) 4 (omega arith) (omega arith))) in
    let third = next c.args.self.now.v3 c.stripes.self.v3 c.add_product-self-in-stripes-2.result 8 (ap (λ (x : Core). x.v3) before)
    (c.add_product-self-in-stripes-2.ensures (word 8 i) (product (i * 4 + 2) 8 (omega arith) (omega arith))) in
    let fourth = next c.args.self.now.v4 c.stripes.self.v4 c.add_product-self-in-stripes-3.result 12 (ap (λ (x : Core). x.v4) before)
    (c.add_product-self-in-stripes-3.ensures (word 12 i) (product (i * 4 + 3) 12 (omega arith) (omega arith))) in
    λ j. core_of (first j) (second j) (third j) (fourth j)
