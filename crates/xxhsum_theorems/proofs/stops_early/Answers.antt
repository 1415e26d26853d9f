use Rattle.xxhsum_program.specs.Prelude.{files_of, input_of}
use Rattle.xxhsum_program.specs.Order.{rules_of}
use Rattle.xxhsum_theorems.proofs.HeadlineFacts.{list-stops, names-stop}
use Rattle.xxhsum_theorems.proofs.stops_early.Goals as goal

pub returns : goal.returns
returns g c = record {
  names = λ held has_lost store kind style names old new stop says. names-stop (files_of g.S.Store g.S.File.Source store) (rules_of g.W.Sink held has_lost g.E.Sink) kind style names old new stop says;
  list = λ held has_lost store options name source old new stop says. list-stops (files_of g.S.Store g.S.File.Source store) (input_of g.R.Source source) (rules_of g.W.Sink held has_lost g.E.Sink) options name old new stop says;
}
