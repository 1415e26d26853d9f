use Rattle.xxhsum_program.proofs.PrintedIsGoodFacts.{printed_is_good}
use Rattle.xxhsum_program.proofs.printed_lists.printed_is_good.Goals as goal

pub returns : goal.returns
returns g c = λ store kind shape names outcomes source findings end options added stay listed some few holds finds. printed_is_good g.S.Store g.S.File.Source g.R.Source store kind shape names outcomes source findings end options added stay listed some few holds finds
