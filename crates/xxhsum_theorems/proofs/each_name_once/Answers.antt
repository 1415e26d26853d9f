use Rattle.xxhsum_program.specs.Prelude.{files_of}
use Rattle.xxhsum_program.specs.Order.{rules_of}
use Rattle.xxhsum_theorems.proofs.HeadlineFacts.{each-name-once}
use Rattle.xxhsum_theorems.proofs.each_name_once.Goals as goal

pub returns : goal.returns
returns g c = λ held has_lost store kind style names old new all says.
    each-name-once (files_of g.S.Store g.S.File.Source store) (rules_of g.W.Sink held has_lost g.E.Sink) kind style names old new all says
