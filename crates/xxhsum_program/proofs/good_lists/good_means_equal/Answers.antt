use Rattle.xxhsum_program.proofs.GoodListFacts.{good-means-equal}
use Rattle.xxhsum_program.proofs.good_lists.good_means_equal.Goals as goal

pub returns : goal.returns
returns g c = λ store options source findings end finds is. good-means-equal g.S.Store g.S.File.Source g.R.Source store options source findings end finds is
