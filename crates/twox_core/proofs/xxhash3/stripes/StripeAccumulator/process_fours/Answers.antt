use Rattle.twox_core.proofs.Prelude.{◌/◌, ◌∙◌, ◌≡◌, arith, first_chunks_at, length, refl, secret_bytes}
use Rattle.twox_core.specs.Stripes.{after_stripes}
use Rattle.twox_core.proofs.StripeFacts.{next_four}
use Rattle.twox_core.proofs.xxhash3.stripes.StripeAccumulator.process_fours.Goals as goal

pub fours-init : goal.fours-init
unfolding after_stripes
fours-init g c = record { exact = refl; place = c.requires.place; fourth = c.requires.fourth }

pub process_four-requires-clause-place : goal.process_four-requires-clause-place
process_four-requires-clause-place g c = omega (arith, c.fours.invariant.place, c.fours.invariant.fourth)

pub fours-preserved : goal.fours-preserved
fours-preserved g c =
    let s = secret_bytes c.args.secret in
    let xs = c.args.bytes.now in
    let i = c.fours.four-index in
    let place = c.process_four.ensures.place in
    record {
      exact =
          c.process_four.ensures.exact
          ∙ next_four s c.args.self.now c.fours.taken _ xs i c.fours.invariant.exact (rw c.bp_as_chunks.ensures.chunks (first_chunks_at 256 (length xs / 256) xs i _ (omega arith)));
      place = omega (arith, place);
      fourth = omega (arith, place, c.fours.invariant.fourth);
    }

pub returns : goal.returns
returns g c =
    let s = secret_bytes c.args.secret in
    let all : c.fours.four-index ≡ length c.args.bytes.now / 256 = omega arith in
    record { exact = rw all at c.fours.invariant.exact; place = c.fours.invariant.place }
