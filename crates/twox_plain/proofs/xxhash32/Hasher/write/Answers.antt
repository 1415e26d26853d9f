use Rattle.twox_plain.proofs.Prelude.{◌∙◌, SavedState, ap, arith, length, subst, sym}
use Rattle.twox_plain.specs.Record32.{AgreeInUse, after_write}
use Rattle.twox_plain.proofs.Message32.{after_write_agree}
use Rattle.twox_plain.proofs.xxhash32.Hasher.write.Goals as goal

pub returns-clause-unread : goal.returns-clause-unread
returns-clause-unread c = λ other agree.
    let d = c.args.input.now in
    let result = c.add_piece.ensures.exact ∙ ap (λ (s : SavedState). after_write s d) c.self.view_is in
    let size = ap (λ (s : SavedState). length s.buffer) c.self.view_is in
    let usage = ap (λ (s : SavedState). s.buffer_usage) c.self.view_is in
    subst (λ (s : SavedState). AgreeInUse s (after_write other d)) (sym result) (after_write_agree c.args.self.now other d (omega (arith, size)) (omega (arith, usage, c.self.invariant)) agree)
