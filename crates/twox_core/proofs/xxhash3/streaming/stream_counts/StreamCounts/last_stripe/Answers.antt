use Rattle.twox_core.proofs.Prelude.{◌++◌, ◌+◌, ◌-◌, ◌∙◌, ◌≡◌, List, ap, arith, drop, length, length-drop, nat_lt, nat_tests, take, take_all, true, ℕ}
use Rattle.twox_core.specs.Finish.{last_bytes}
use Rattle.twox_core.proofs.xxhash3.streaming.stream_counts.StreamCounts.last_stripe.Goals as goal

pub returns-then-used-lt64 : goal.returns-then-used-lt64
unfolding last_bytes
returns-then-used-lt64 g c =
    let u = c.args.self.now.buffer_usage in
    let b = c.args.buffer.now in
    let size : length b ≡ g.row.N = omega arith in
    let test : nat_lt u 64 ≡ true = grind (arith, nat_tests, c.if-used-lt64.true) in
    let kept = take_all (length b - (g.row.N - 64 + u)) (drop (g.row.N - 64 + u) b) (omega (arith, length-drop (g.row.N - 64 + u) b)) in
    rw (test, size) (c.stripe_of_parts.ensures ∙ ap (λ (x : List ℕ). x ++ take u b) kept)
