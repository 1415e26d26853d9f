use Rattle.std.proofs.Common.{subst, sym, ◌∙◌}
use Rattle.twox_hash.specs.Record64.{AgreeInUse}
use Rattle.twox_plain.proofs.Message64.{AgreeInUse-same}
use Rattle.client_proofs.proofs.records.values_after_64.Goals as goal

pub loop-piece-init : goal.loop-piece-init
loop-piece-init c = λ agree. agree

pub loop-piece-preserved : goal.loop-piece-preserved
loop-piece-preserved c = λ agree.
    subst (λ s. AgreeInUse c.write.new.self s) (sym c.write-in-loop-piece.ensures.exact) (c.write.ensures.unread c.loop-piece.b (c.loop-piece.invariant agree))

pub returns-clause-unread : goal.returns-clause-unread
returns-clause-unread c = λ agree.
    c.finish-2.ensures.exact ∙ c.finish.ensures.unread c.loop-piece.b (c.loop-piece.invariant agree)

pub returns-clause-equal : goal.returns-clause-equal
returns-clause-equal c = λ same. returns-clause-unread c (AgreeInUse-same c.args.a.now c.args.b.now same)
