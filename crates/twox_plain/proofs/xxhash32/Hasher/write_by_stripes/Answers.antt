use Rattle.twox_plain.proofs.Prelude.{◌++◌, ◌∙◌, SavedState, ap, arith, length, subst, sym}
use Rattle.twox_plain.specs.Record32.{Represents, after_write}
use Rattle.twox_plain.proofs.Message32.{after_write_stands}
use Rattle.twox_plain.proofs.xxhash32.Hasher.write_by_stripes.Goals as goal

pub returns-clause-message : goal.returns-clause-message
returns-clause-message c = λ m stands.
    let d = c.args.input.now in
    let result = c.take_piece.ensures.exact ∙ ap (λ (s : SavedState). after_write s d) c.self.view_is in
    let size = ap (λ (s : SavedState). length s.buffer) c.self.view_is in
    subst (λ (s : SavedState). Represents s (m ++ d)) (sym result) (after_write_stands c.args.self.now m d (omega (arith, size)) stands)
