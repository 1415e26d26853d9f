use Rattle.std.proofs.Common.{ap, ◌∙◌}
use Rattle.twox_core.specs.Steps.{avalanche}
use Rattle.twox_core.specs.Middle.{value64_17_to_128}
use Rattle.twox_core.proofs.width_64.impl_17_to_128_bytes.Goals as goal

pub returns : goal.returns
unfolding value64_17_to_128
returns c = c.avalanche.ensures ∙ ap avalanche c.sum_17_to_128.ensures
