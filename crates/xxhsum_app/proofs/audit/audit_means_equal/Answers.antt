use Rattle.xxhsum_app.proofs.GoodAuditFacts.{audit-means-equal}
use Rattle.xxhsum_program.specs.Order.{rules_of}
use Rattle.xxhsum_app.proofs.audit.audit_means_equal.Goals as goal

pub returns : goal.returns
returns g c = audit-means-equal g.S.Store g.S.File.Source (rules_of g.W.Sink g.W.Output.held g.W.Output.has_lost g.E.Sink)
