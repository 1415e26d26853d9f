use Rattle.twox_core.proofs.Prelude.{◌*◌, ◌+◌, ◌/◌, ◌∙◌, ◌≡◌, arith, drop, first_chunks_at, length, refl, secret_bytes, sym}
use Rattle.twox_core.specs.Ending.{accumulate_block}
use Rattle.twox_core.proofs.EndingFacts.{accumulate_block-next}
use Rattle.twox_core.proofs.PartFacts.{stripe_at-drop}
use Rattle.twox_core.proofs.xxhash3.stripes.within.accumulate_within.Goals as goal

pub stripes-init : goal.stripes-init
unfolding accumulate_block
stripes-init g c = refl

pub stripes-preserved : goal.stripes-preserved
stripes-preserved g c =
    let s = secret_bytes c.args.secret in
    let p = c.args.place in
    let b = c.args.bytes.now in
    let i = c.stripes.i in
    let place : i * 64 ≡ 64 * i = omega arith in
    rw c.stripes.invariant at c.accumulate.ensures
    ∙ accumulate_block-next (drop (8 * p) s) c.args.acc b _ _ i
    (rw c.bp_as_chunks.ensures.chunks (first_chunks_at 64 (length b / 64) b i _ (omega arith) ∙ rw place refl))
    (c.stripe.ensures ∙ sym (stripe_at-drop s (8 * p) (8 * i) (8 * (p + i)) (omega arith)))
