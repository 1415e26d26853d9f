use Rattle.std.proofs.Common.{[], subst}
use Rattle.std.proofs.lemmas.List.{take_more, map-append, append-nil, append_assoc}
use Rattle.std.proofs.lemmas.List.Folds.{concat-append}
use Rattle.theorems.proofs.update_all.Goals as goal

pub loop-piece-preserved : goal.loop-piece-preserved
loop-piece-preserved g c = λ seed s m follows.
    rw (take_more c.args.pieces.now c.loop-piece.piece-index (record { ref_ptr = (0, 0); now = [] }) c.loop-piece-test.true, map-append, concat-append, append-nil)
    (subst (λ n. g.H.StreamingHasher.follows c.update.new.self seed s n) (append_assoc m _ _) (c.update.ensures seed s _ (c.loop-piece.invariant seed s m follows)))
