use Rattle.twox_core.proofs.Prelude.{◌%◌, ◌*◌, ◌+◌, ◌-◌, ◌/◌, ◌^◌, ◌∙◌, ◌≡◌, List, ap, arith, length, prime64_1, secret_bytes, ℕ}
use Rattle.twox_core.specs.Steps.{sum_below}
use Rattle.twox_core.specs.Middle.{both_ends}
use Rattle.twox_core.proofs.width_64.sum_17_to_128.Goals as goal

-- The sum after the first n steps.
abbrev sum_after : ℕ → List ℕ → List ℕ → ℕ → ℕ
sum_after seed s m n = (length m * prime64_1 + sum_below (both_ends seed s m) n) % 2 ^ 64

-- Lemma: the sum before the first step is length m * prime64_1.
before : (seed : ℕ) (s m : List ℕ) (n : ℕ) → n ≡ length m → n * prime64_1 % 2 ^ 64 ≡ sum_after seed s m 0
unfolding sum_below
before seed s m n e = omega arith

-- Lemma: n steps are all steps of m if n is (length m - 1) / 32 + 1.
all_steps : (seed : ℕ) (s m : List ℕ) (n : ℕ) → n ≡ (length m - 1) / 32 + 1 → sum_after seed s m n ≡ sum_after seed s m ((length m - 1) / 32 + 1)
all_steps seed s m n e = ap (sum_after seed s m) e

pub returns-then-input-le32 : goal.returns-then-input-le32
returns-then-input-le32 c =
    let m = c.args.input.now in
    let s = secret_bytes c.args.secret in
    let start = length m * prime64_1 in
    c.add_both_ends-sum.ensures start (before c.args.seed s m _ c.into_u64-sum.ensures) ∙ all_steps c.args.seed s m 1 (omega arith)

pub returns-then-input-le64 : goal.returns-then-input-le64
returns-then-input-le64 c =
    let m = c.args.input.now in
    let s = secret_bytes c.args.secret in
    let start = length m * prime64_1 in
    c.add_both_ends-sum-2.ensures start
    (c.add_both_ends-sum.ensures start (before c.args.seed s m _ c.into_u64-sum.ensures)) ∙ all_steps c.args.seed s m 2 (omega arith)

pub returns-then-input-le96 : goal.returns-then-input-le96
returns-then-input-le96 c =
    let m = c.args.input.now in
    let s = secret_bytes c.args.secret in
    let start = length m * prime64_1 in
    c.add_both_ends-sum-3.ensures start
    (c.add_both_ends-sum-2.ensures start
    (c.add_both_ends-sum.ensures start (before c.args.seed s m _ c.into_u64-sum.ensures))) ∙ all_steps c.args.seed s m 3 (omega arith)

pub returns : goal.returns
returns c =
    let m = c.args.input.now in
    let s = secret_bytes c.args.secret in
    let start = length m * prime64_1 in
    c.add_both_ends.ensures start
    (c.add_both_ends-sum-3.ensures start
    (c.add_both_ends-sum-2.ensures start
    (c.add_both_ends-sum.ensures start (before c.args.seed s m _ c.into_u64-sum.ensures)))) ∙ all_steps c.args.seed s m 4 (omega arith)
