use Rattle.xxhsum_app.proofs.Prelude.{ArePartsOf, map-more}
use Rattle.xxhsum_app.proofs.ReadListFacts.{give-more}
use Rattle.xxhsum_app.proofs.names.names_in.Goals as goal

pub loop-text-preserved : goal.loop-text-preserved
loop-text-preserved c =
    let longer = map-more (λ text. text.items) c.args.texts.now c.loop-text.text-index c.text-item.result c.loop-text-test.true c.text-item.is in
    let adds = rw c.deref.ensures.value at c.in_ok-add_names.ensures in
    rw (longer, adds.1) (give-more (ArePartsOf c.args.end) _ c.text-item.result.items _ adds.0 c.loop-text.invariant adds.2)
