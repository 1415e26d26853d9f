use Rattle.xxhsum_app.proofs.Prelude.{inl, inr, refl, source_of, unopened_text}
use Rattle.xxhsum_app.proofs.FindFacts.{finds-as}
use Rattle.xxhsum_app.proofs.texts.text_named.Goals as goal

pub returns-in-Ok : goal.returns-in-Ok
returns-in-Ok g c =
    let opened = c.in-Ok.ensures.opens in
    finds-as g.E.Sink _ _ _ _ _ _ (λ text has. (source_of c.in-Ok.file, opened, has)) (λ text breaks. inr (source_of c.in-Ok.file, opened, breaks)) c.text_of.result c.text_of.ensures

pub returns-in-Err : goal.returns-in-Err
returns-in-Err g c =
    let refusal = c.in-Err.refusal in
    (unopened_text c.args.name.now refusal, inl (refusal, c.in-Err.ensures.refuses, refl), c.eprint_unopened.ensures)
