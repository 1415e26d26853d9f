use Rattle.std.proofs.Common.{Bool}
use Rattle.xxhsum_program.specs.Order.{rules_of}
use Rattle.xxhsum_program.proofs.OrderFacts.{emits-prints, emits-refuses, emits-reports}
use Rattle.xxhsum_theorems.proofs.each_stream.Goals as goal

pub returns : goal.returns
returns g c = record {
  ends = λ held has_lost events old new emits.
      let rules = rules_of g.W.Sink held has_lost g.E.Sink in
      (emits-prints rules events old new emits, emits-reports rules events old new emits);
  stops = λ held has_lost events old new emits.
      emits-refuses Bool (rules_of g.W.Sink held has_lost g.E.Sink) events old new emits;
}
