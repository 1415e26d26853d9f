use Rattle.xxhsum_app.specs.Walk.{tree_of}
use Rattle.xxhsum_program.specs.Order.{rules_of}
use Rattle.xxhsum_program.specs.Prelude.{files_of}
use Rattle.xxhsum_theorems.proofs.TreeFacts.{files_below}
use Rattle.xxhsum_theorems.proofs.each_file_below_once.Goals as goal

pub returns : goal.returns
returns g c = λ held has_lost store options patterns names old new walks.
    let laws = c.laws_of_walks.ensures in
    files_below patterns (tree_of g.S.Store g.S.Folders store) (files_of g.S.Store g.S.File.Source store) (rules_of g.W.Sink held has_lost g.E.Sink)
    options names old new (laws.each store patterns) (laws.no_other store patterns) walks
