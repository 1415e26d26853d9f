use Rattle.xxhsum_program.proofs.Prelude.{rules_of}
use Rattle.xxhsum_program.proofs.OrderFacts.{emits-line-or-none}
use Rattle.xxhsum_program.proofs.hash.write_outcome.Goals as goal

pub returns-in-Digested-clause-emits : goal.returns-in-Digested-clause-emits
returns-in-Digested-clause-emits g c =
    rw c.in-Digested.is (emits-line-or-none (rules_of g.W.Sink g.W.Output.held g.W.Output.has_lost g.E.Sink) _ c.args.streams.now c.print_value.new.out c.print_value.result c.print_value.ensures.prints)
