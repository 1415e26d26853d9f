use Rattle.xxhsum_program.proofs.Prelude.{◌∙◌, SaysInput, effect_of, input_of, rules_of, source_of, subst, sym}
use Rattle.xxhsum_program.specs.Run.{PerformsAs, input_name, style_of}
use Rattle.xxhsum_program.proofs.process.perform.Goals as goal

pub returns-then-has_none-2 : goal.returns-then-has_none-2
unfolding PerformsAs
returns-then-has_none-2 g c =
    let options = c.args.context.now.options in
    let end = source_of c.hash_input.new.input in
    let effect = effect_of (rules_of g.W.Sink g.W.Output.held g.W.Output.has_lost g.E.Sink) c.args.streams.now c.hash_input.new.streams c.hash_input.result in
    let says = subst (λ from. SaysInput (input_of g.R.Source from) end effect options.kind (style_of options) input_name) c.watch-input.ensures.source c.hash_input.ensures in
    rw (c.if-context.false, sym c.has_none-2.ensures ∙ c.if-has_none-2.true) (end, says)
