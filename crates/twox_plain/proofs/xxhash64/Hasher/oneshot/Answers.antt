use Rattle.std.proofs.Common.{◌∙◌, arith}
use Rattle.twox_plain.proofs.Laws64.{unit_law_64, seed_law_64}
use Rattle.twox_plain.proofs.xxhash64.Hasher.oneshot.Goals as goal

pub returns-clause-changed_unit : goal.returns-clause-changed_unit
returns-clause-changed_unit c = λ n from size bytes unit apart same.
    unit_law_64 c.args.seed c.args.input.now n from size (λ k. omega (arith, c.type_inv.input k)) bytes unit apart (same ∙ c.impl_oneshot.ensures)

pub returns-clause-changed_seed : goal.returns-clause-changed_seed
returns-clause-changed_seed c = λ other small differs short same.
    seed_law_64 c.args.seed other c.args.input.now (omega arith) small (λ k. omega (arith, c.type_inv.input k)) short differs (same ∙ c.impl_oneshot.ensures)
