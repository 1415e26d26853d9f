use Rattle.twox_core.proofs.Prelude.{[], ◌%◌, ◌*◌, ◌+◌, ◌-◌, ◌/◌, ◌<◌, ◌^◌, ◌∙◌, ◌≡◌, ap, arith, length, prime64_1, secret_bytes, ℕ}
use Rattle.twox_core.specs.Parts.{chunk_at, chunks_at}
use Rattle.twox_core.specs.Steps.{avalanche, sum_below}
use Rattle.twox_core.specs.Middle.{early, later, value64_129_to_240}
use Rattle.twox_core.proofs.MixFacts.{sum_below-next, mix-of_key}
use Rattle.twox_core.proofs.PartFacts.{chunks_at-chunk}
use Rattle.twox_core.proofs.width_64.impl_129_to_240_bytes.Goals as goal
use Rattle.twox_core.proofs.width_64.impl_129_to_240_bytes.Goals.{then-input-c, else-input-c}

pub early-init : goal.early-init
unfolding sum_below
early-init c = omega arith

pub early-preserved : goal.early-preserved
unfolding early
early-preserved c =
    let m = c.args.input.now in
    let s = secret_bytes c.args.secret in
    let seed = c.args.seed in
    let i = c.early.c in
    let keys = c.words_for_129_to_240_part1-words.ensures.chunks ∙ ap (λ b. chunks_at b 0 8) c.for_64.ensures in
    let key = chunks_at-chunk s _ 0 8 i (16 * i) [] keys (omega arith) (omega arith) in
    let here = c.mix_at.ensures ∙ mix-of_key m s _ (16 * i) (16 * i) seed key in
    omega (arith, here, sum_below-next (early seed s m) i)

pub later-init : goal.later-init
unfolding sum_below
later-init c =
    let m = c.args.input.now in
    let s = secret_bytes c.args.secret in
    let seed = c.args.seed in
    let done : c.early.c ≡ 8 = omega arith in
    let sum : ℕ → ℕ = λ k. (length m * prime64_1 + sum_below (early seed s m) k) % 2 ^ 64 in
    let start : c.avalanche-acc.result ≡ avalanche (sum 8) = c.avalanche-acc.ensures ∙ ap avalanche (c.early.invariant ∙ ap sum done) in
    let small : c.avalanche-acc.result < 2 ^ 64 = omega arith in
    let none : 0 - (0 - (length m / 16 - 8)) ≡ 0 = omega arith in
    let nothing : sum_below (later seed s m) (0 - (0 - (length m / 16 - 8))) ≡ 0 = ap (sum_below (later seed s m)) none in
    omega (arith, start, small, nothing)

pub later-preserved : goal.later-preserved
unfolding later
later-preserved c =
    let m = c.args.input.now in
    let s = secret_bytes c.args.secret in
    let seed = c.args.seed in
    let i = c.later.c in
    let n = length m / 16 - 8 in
    let sum = sum_below (later seed s m) in
    elim c.if-input-c.branch [
      | then-input-c w ↦
          let keys = c.words_for_129_to_240_part2-words.ensures.chunks ∙ ap (λ b. chunks_at b 3 8) c.for_64-2.ensures in
          let key = chunks_at-chunk s _ 3 8 i (16 * i + 3) [] keys (omega arith) (omega arith) in
          let here = w.mix_at-then-input-c.ensures ∙ mix-of_key m s _ (128 + 16 * i) (16 * i + 3) seed key in
          let low : i < n = omega (arith, w.if-input-c.true) in
          let before : sum (i - (i - n)) ≡ sum i = ap sum (omega arith) in
          let after : sum (i + 1 - (i + 1 - n)) ≡ sum (i + 1) = ap sum (omega arith) in
          omega (arith, here, before, after, sum_below-next (later seed s m) i, w.acc-is)
      | else-input-c w ↦
          let same : sum (i + 1 - (i + 1 - n)) ≡ sum (i - (i - n)) = ap sum (omega (arith, w.if-input-c.false)) in
          omega (arith, same, w.acc-is)
    ]

pub returns : goal.returns
unfolding value64_129_to_240
returns c =
    let m = c.args.input.now in
    let s = secret_bytes c.args.secret in
    let seed = c.args.seed in
    let all : c.later.c - (c.later.c - (length m / 16 - 8)) ≡ length m / 16 - 8 = omega arith in
    let sums : sum_below (later seed s m) (c.later.c - (c.later.c - (length m / 16 - 8))) ≡ sum_below (later seed s m) (length m / 16 - 8) = ap (sum_below (later seed s m)) all in
    let key = c.words_for_129_to_240_part3-words.ensures ∙ ap (λ b. chunk_at b 119) c.for_64-3.ensures in
    let last = c.mix_at-acc.ensures ∙ mix-of_key m s _ (length m - 16) 119 seed key in
    c.avalanche.ensures ∙ ap avalanche (omega (arith, last, sums))
