use Rattle.twox_core.specs.Middle.{first_17_to_128, second_17_to_128}
use Rattle.twox_core.proofs.width_128.impl_65_to_128_bytes.Goals as goal

pub returns : goal.returns
unfolding first_17_to_128 second_17_to_128
returns c =
    c.mix_last.ensures
    (c.mix_above_32-accumulators.ensures.first c.initial_accumulators.ensures.first)
    (c.mix_above_32-accumulators.ensures.second c.initial_accumulators.ensures.second)
