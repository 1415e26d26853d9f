use Rattle.xxhsum_app.proofs.Prelude.{inl, inr, refl, source_of, unopened_text}
use Rattle.xxhsum_app.proofs.FindFacts.{finds-as}
use Rattle.xxhsum_app.proofs.read_list.read_list.Goals as goal

pub returns-in-Ok : goal.returns-in-Ok
returns-in-Ok g c =
    let opened = c.in-Ok.ensures.opens in
    finds-as g.E.Sink _ _ _ _ _ _ (λ entries says. (source_of c.in-Ok.file, opened, says)) (λ text nothing. inr (source_of c.in-Ok.file, opened, nothing)) c.read_lines.result c.read_lines.ensures

pub returns-in-Err : goal.returns-in-Err
returns-in-Err g c =
    let refusal = c.in-Err.refusal in
    (unopened_text c.args.list.now refusal, inl (refusal, c.in-Err.ensures.refuses, refl), c.eprint_unopened.ensures)
