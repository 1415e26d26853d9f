use Rattle.twox_core.proofs.Prelude.{◌*◌, ◌/◌, ◌∙◌, ◌≡◌, arith, length, length-drop, length-take-le, refl, secret_bytes, take}
use Rattle.twox_core.specs.AfterWrite.{after_rest, after_taking, stripes_in_place}
use Rattle.twox_core.proofs.TakenFacts.{after_taking-take}
use Rattle.twox_core.proofs.xxhash3.streaming.stream_counts.StreamCounts.restart.Goals as goal

pub returns-clause-exact : goal.returns-clause-exact
unfolding after_rest
returns-clause-exact g c =
    let s = secret_bytes c.args.secret in
    let t = c.args.self.now.taken in
    let r = c.args.rest.now in
    let n = stripes_in_place (length r) in
    let width : length (take (64 * n) r) / 64 ≡ n = omega (arith, length-take-le (64 * n) r (omega arith)) in
    let part = rw c.saturating_sub-count.ensures at c.split_at.ensures.front in
    let back = rw c.saturating_sub-count.ensures at c.split_at.ensures.back in
    let taken : c.process.new.self ≡ after_taking s t r n =
    rw (part, width) at c.process.ensures.exact ∙ after_taking-take s t r (64 * n) n (omega arith) in
    rw (c.begin_with.ensures, taken, back, length-drop (64 * n) r) refl
