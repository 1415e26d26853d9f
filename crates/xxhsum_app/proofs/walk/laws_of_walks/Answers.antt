use Rattle.xxhsum_app.proofs.OnceFacts.{finds-once}
use Rattle.xxhsum_app.proofs.VisitFacts.{finds-each-file, finds-no-other}
use Rattle.xxhsum_app.specs.Walk.{tree_of, without}
use Rattle.xxhsum_app.proofs.walk.laws_of_walks.Goals as goal

pub returns : goal.returns
returns g c = record {
  each = λ store patterns. finds-each-file (without patterns (tree_of g.S.Store g.S.Folders store));
  no_other = λ store patterns. finds-no-other (without patterns (tree_of g.S.Store g.S.Folders store));
  once = λ store patterns. finds-once (without patterns (tree_of g.S.Store g.S.Folders store));
}
