use Rattle.xxhsum_app.proofs.Prelude.{Breaks, HasText, input_name, source_of, subst}
use Rattle.xxhsum_app.proofs.FindFacts.{lost-is}
use Rattle.xxhsum_app.proofs.texts.text_of_input.Goals as goal

pub returns-in_default : goal.returns-in_default
returns-in_default g c =
    let source = source_of c.watch.result in
    let lost = lost-is g.E.Sink (λ text. HasText g.R.Source source text.items) (Breaks g.R.Source input_name source) c.args.err.now c.text_of.new.err c.in_ok-text.field-0 c.in_default.is c.in_ok-text.ensures in
    (lost.0, subst (λ from. Breaks g.R.Source input_name from lost.0) c.watch.ensures.source lost.1, lost.2)
