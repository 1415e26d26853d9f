use Rattle.std.proofs.Common.{[], subst, sym, false}
use Rattle.std.proofs.lemmas.List.{take_more, map-append, append-nil, append_assoc}
use Rattle.std.proofs.lemmas.List.Folds.{concat-append}
use Rattle.twox_hash.specs.Represents.{Represents}
use Rattle.theorems.proofs.write_all.Goals as goal
use Rattle.theorems.proofs.write_all.Goals.{then-piece, else-piece}

pub loop-piece-preserved : goal.loop-piece-preserved
loop-piece-preserved g c = λ seed s m stands.
    let bytes = g.S.FixedBuffer.bytes in
    let before = c.loop-piece.invariant seed s m stands in
    rw (take_more c.args.pieces.now c.loop-piece.piece-index (false, record { ref_ptr = (0, 0); now = [] }) c.loop-piece-test.true, map-append, concat-append, append-nil)
    (subst (λ n. Represents bytes c.if-piece.core seed s n) (append_assoc m _ _)
    (elim c.if-piece.branch [
      | then-piece w ↦ subst (λ h. Represents bytes h seed s _) (sym w.core-is) (w.write_with.ensures.message seed s _ before)
      | else-piece w ↦ subst (λ h. Represents bytes h seed s _) (sym w.core-is) (w.write_with-else-piece.ensures.message seed s _ before)
    ]))
