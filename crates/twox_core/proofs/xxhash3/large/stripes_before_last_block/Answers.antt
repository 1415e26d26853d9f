use Rattle.twox_core.proofs.Prelude.{◌*◌, ◌-◌, ◌/◌, ◌∙◌, ◌≡◌, ap, arith, div-div-eq-div-mul, div-eq_of_lt, sym, ℕ}
use Rattle.twox_core.proofs.xxhash3.large.stripes_before_last_block.Goals as goal

pub returns-then-count-n_stripes : goal.returns-then-count-n_stripes
returns-then-count-n_stripes c =
    let n = c.args.n_stripes in
    let last = c.args.len - 1 in
    let none : last / (64 * n) ≡ 0 = sym (div-div-eq-div-mul last 64 n) ∙ div-eq_of_lt c.if-count-n_stripes.true in
    rw none (omega arith)

pub returns : goal.returns
returns c = ap (λ (k : ℕ). c.args.n_stripes * k) (div-div-eq-div-mul (c.args.len - 1) 64 c.args.n_stripes)
