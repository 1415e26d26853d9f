use Rattle.twox_plain.proofs.Prelude.{◌++◌, SavedState, arith, record_of, subst, sym}
use Rattle.twox_plain.specs.Record32.{Represents}
use Rattle.twox_plain.proofs.Message32.{after_write_stands}
use Rattle.twox_plain.proofs.xxhash32.StateInMemory.add_piece.Goals as goal

pub returns-clause-message : goal.returns-clause-message
returns-clause-message c = λ m stands.
    subst (λ (s : SavedState). Represents s (m ++ c.args.input.now)) (sym c.take_piece.ensures.exact) (after_write_stands (record_of c.args.self.now) m c.args.input.now (omega arith) stands)
