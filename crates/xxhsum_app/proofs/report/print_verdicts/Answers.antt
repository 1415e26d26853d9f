use Rattle.xxhsum_app.proofs.Prelude.{[], ◌+◌, ◌∙◌, ◌∷◌, Classed, found_of, founds_of, Took, Took-join, ap, drop, is-err, map, map-append, map_more, shown_texts, subst, sym, take}
use Rattle.xxhsum_app.proofs.ReportFacts.{map-at, remarks-stop, shown-push, stops-in-text}
use Rattle.xxhsum_app.proofs.report.print_verdicts.Goals as goal

pub returns-in_err-print_one-clause-prints : goal.returns-in_err-print_one-clause-prints
returns-in_err-print_one-clause-prints g c =
    let k = c.loop-verdict.verdict-index in
    let all = c.args.found.now in
    let stop = c.in_err-print_one.field-0.0 in
    remarks-stop g.W.Sink c.args.options (map Classed (founds_of all)) _ _ stop c.from_residual.result (is-err c.from_residual.result stop c.from_residual.ensures.1)
    (stops-in-text g.W.Sink c.args.options (map Classed (founds_of all)) (map Classed (founds_of (take k all))) (map Classed (founds_of (drop (k + 1) all))) _ _ _ _ stop
    (ap (map Classed) (map-at found_of all k _ c.loop-verdict-test.true) ∙ map-append Classed (founds_of (take k all)) (_ ∷ founds_of (drop (k + 1) all)))
    c.loop-verdict.invariant.prints c.in_err-print_one.ensures.prints)

pub loop-verdict-preserved : goal.loop-verdict-preserved
loop-verdict-preserved g c =
    let k = c.loop-verdict.verdict-index in
    let all = c.args.found.now in
    record {
      prints = subst (λ text. Took g.W.Sink text c.args.out.now c.print_one.new.out)
          (sym (ap (shown_texts c.args.options) (ap (map Classed) (map_more found_of all k _ c.loop-verdict-test.true) ∙ map-append Classed (founds_of (take k all)) (_ ∷ []))
          ∙ shown-push c.args.options (map Classed (founds_of (take k all))) _))
          (Took-join g.W.Sink _ _ _ _ _ c.loop-verdict.invariant.prints c.in_ok-print_one.ensures.prints);
      works = c.in_ok-print_one.ensures.works;
    }
