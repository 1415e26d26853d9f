use Rattle.twox_core.proofs.Prelude.{◌/◌, ◌≡◌, arith, first_chunks_at, length, refl, secret_bytes}
use Rattle.twox_core.specs.Stripes.{after_stripes}
use Rattle.twox_core.proofs.BlockFacts.{next_block}
use Rattle.twox_core.proofs.xxhash3.stripes.blocks.process_blocks.Goals as goal

pub each-init : goal.each-init
unfolding after_stripes
each-init g c = refl

pub each-preserved : goal.each-preserved
each-preserved g c =
    let s = secret_bytes c.args.secret in
    let m = c.args.bytes.now in
    let i = c.each.i in
    rw (c.round_scramble.ensures, c.process_block-sums.ensures, c.last_stripe.ensures)
    (next_block s c.args.acc c.each.taken _ m i c.requires c.each.invariant
    (rw c.bp_as_chunks.ensures.chunks (first_chunks_at 1024 (length m / 1024) m i _ (omega arith))))

pub returns : goal.returns
returns g c =
    let all : c.each.i ≡ length c.args.bytes.now / 1024 = omega arith in
    rw all at c.each.invariant
