use Rattle.std.proofs.Common.{◌≡◌, ◌<◌, ◌≤◌, ℕ, List, [], Some, slice_get, unwrap_or, length, inl, inr, refl, sym, ap, subst, ◌∙◌, arith}
use Rattle.std.proofs.lemmas.Bool.{cases_lt}
use Rattle.std.proofs.lemmas.Option.{slice_get_read, slice_get-get_or, slice_get_within}
use Rattle.std.proofs.Math.Nat.{eq-or-lt_of_le}
use Rattle.twox_hash.specs.Word.{IsBytes}
use Rattle.twox_hash.specs.ChangedUnit.{IsUnit32, DiffersWithin, NoticesChangedUnit}
use Rattle.twox_hash.specs.Xxh32.{xxh32}
use Rattle.client_proofs.proofs.blocks.first_changed.Goals as goal

-- Lemma: a block with the index's hash isn't one changed unit away from the block that was indexed.
noticed : (seed i from size : ℕ) (index : List ℕ) (block indexed : List ℕ) → slice_get index i ≡ Some (xxh32 seed block) → NoticesChangedUnit IsUnit32 (xxh32 seed) block (xxh32 seed block)
    → slice_get index i ≡ Some (xxh32 seed indexed) → IsBytes indexed → IsUnit32 (length block) from size → DiffersWithin from size block indexed → ⊥
noticed seed i from size index block indexed now notices stored bytes unit differs =
    notices indexed from size bytes unit differs (ap (λ o. unwrap_or o 0) (sym stored ∙ now))

pub returns-then-oneshot-index-clause-notices : goal.returns-then-oneshot-index-clause-notices
returns-then-oneshot-index-clause-notices g c = λ i from size indexed block stored at bytes unit differs.
    elim (cases_lt i c.loop-i.i) [
      | inr late ↦ late
      | inl early ↦
          absurd (noticed c.args.seed i from size c.args.index.now block indexed (c.loop-i.invariant.unchanged i block early at) (c.loop-i.invariant.notices i block early at) stored bytes unit differs)
    ]

pub loop-i-preserved : goal.loop-i-preserved
loop-i-preserved g c =
    let i = c.loop-i.i in
    let seed = c.args.seed in
    let blocks = c.args.blocks.now in
    let index = c.args.index.now in
    let this = c.index-blocks-i.result in
    let here : slice_get blocks i ≡ Some this = slice_get_read blocks (length blocks) i this refl (omega arith) c.index-blocks-i.is in
    let stored : slice_get index i ≡ Some (xxh32 seed this) =
    slice_get-get_or index i 0 (omega arith) ∙ ap (λ (x : ℕ). Some x) (sym c.if-oneshot-index.false ∙ c.oneshot.ensures.value) in
    let notices : NoticesChangedUnit IsUnit32 (xxh32 seed) this (xxh32 seed this) =
    subst (λ (x : ℕ). NoticesChangedUnit IsUnit32 (xxh32 seed) this x) c.oneshot.ensures.value c.oneshot.ensures.changed_unit in
    let same = λ (block : List ℕ) (at : slice_get blocks i ≡ Some block). ap (λ o. unwrap_or o []) (sym here ∙ at) in
    record {
      unchanged = λ k block low at. elim (eq-or-lt_of_le (let le : k ≤ i = omega arith in le)) [
        | inl last ↦
            let at' : slice_get blocks i ≡ Some block = subst (λ (j : ℕ). slice_get blocks j ≡ Some block) last at in
            subst (λ (j : ℕ). slice_get index j ≡ Some (xxh32 seed block)) (sym last) (stored ∙ ap (λ (b : List ℕ). Some (xxh32 seed b)) (same block at'))
        | inr before ↦ c.loop-i.invariant.unchanged k block before at
      ];
      notices = λ k block low at. elim (eq-or-lt_of_le (let le : k ≤ i = omega arith in le)) [
        | inl last ↦
            let at' : slice_get blocks i ≡ Some block = subst (λ (j : ℕ). slice_get blocks j ≡ Some block) last at in
            subst (λ (b : List ℕ). NoticesChangedUnit IsUnit32 (xxh32 seed) b (xxh32 seed b)) (same block at') notices
        | inr before ↦ c.loop-i.invariant.notices k block before at
      ];
    }

-- Lemma: each block has an index below n if n is at least the number of blocks, so every block was compared.
compared : (blocks : List (List ℕ)) (i n : ℕ) (block : List ℕ) → length blocks ≤ n → slice_get blocks i ≡ Some block → i < n
compared blocks i n block all at = let within = slice_get_within blocks i block at in omega arith

pub returns-clause-unchanged : goal.returns-clause-unchanged
returns-clause-unchanged g c = λ i block at.
    c.loop-i.invariant.unchanged i block (compared c.args.blocks.now i c.loop-i.i block c.loop-i-test.false at) at

pub returns-clause-notices : goal.returns-clause-notices
returns-clause-notices g c = λ i from size indexed block stored at bytes unit differs.
    let low = compared c.args.blocks.now i c.loop-i.i block c.loop-i-test.false at in
    noticed c.args.seed i from size c.args.index.now block indexed (c.loop-i.invariant.unchanged i block low at) (c.loop-i.invariant.notices i block low at) stored bytes unit differs
