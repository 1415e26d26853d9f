use Rattle.xxhsum_program.specs.Order.{rules_of}
use Rattle.xxhsum_theorems.proofs.HeadlineFacts.{good-means-equal}
use Rattle.xxhsum_theorems.proofs.good_means_equal.Goals as goal

pub returns : goal.returns
returns g c = λ held has_lost store options name source old new says.
    good-means-equal g.S.Store g.S.File.Source g.R.Source (rules_of g.W.Sink held has_lost g.E.Sink) c.good_means_equal.ensures store options name source old new says
