use Rattle.twox_core.proofs.Prelude.{◌*◌, ◌∙◌, ◌≡◌, arith, refl, secret_bytes}
use Rattle.twox_core.specs.Ending.{accumulate_block}
use Rattle.twox_core.proofs.EndingFacts.{accumulate_block-four}
use Rattle.twox_core.proofs.xxhash3.stripes.blocks.process_block.Goals as goal

pub fours-init : goal.fours-init
unfolding accumulate_block
fours-init g c = refl

pub fours-preserved : goal.fours-preserved
fours-preserved g c =
    c.accumulate_four_stripes.ensures
    ∙ accumulate_block-four (secret_bytes c.args.secret) c.args.acc c.args.block.now c.fours.taken _ _ c.fours.i c.fours.invariant c.array_at.ensures c.four_stripes.ensures

pub returns : goal.returns
returns g c =
    let all : 4 * c.fours.i ≡ 16 = omega arith in
    rw all at c.fours.invariant
