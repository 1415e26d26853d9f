use Rattle.std.proofs.Common.{Bor}
use Rattle.xxhsum_app.proofs.Prelude.{[], ◌+◌, ◌∙◌, ◌∷◌, List, Unreadable, texts_of, ℕ, Took, Took-join, ap, drop, is-err, map, map-append, map_more, shown_texts, subst, sym, take}
use Rattle.xxhsum_app.proofs.ReportFacts.{map-at, remarks-stop, shown-push, stops-in-text}
use Rattle.xxhsum_app.proofs.report.print_unread.Goals as goal

pub returns-in_err-print_name-clause-prints : goal.returns-in_err-print_name-clause-prints
returns-in_err-print_name-clause-prints g c =
    let k = c.loop-name.name-index in
    let all = c.args.unread.now in
    let stop = c.in_err-print_name.field-0.0 in
    remarks-stop g.W.Sink c.args.options (map Unreadable (texts_of all)) _ _ stop c.from_residual.result (is-err c.from_residual.result stop c.from_residual.ensures.1)
    (stops-in-text g.W.Sink c.args.options (map Unreadable (texts_of all)) (map Unreadable (texts_of (take k all))) (map Unreadable (texts_of (drop (k + 1) all))) _ _ _ _ stop
    (ap (map Unreadable) (map-at (λ (text : Bor (List ℕ)). text.now) all k _ c.loop-name-test.true) ∙ map-append Unreadable (texts_of (take k all)) (_ ∷ texts_of (drop (k + 1) all)))
    c.loop-name.invariant.prints c.in_err-print_name.ensures.prints)

pub loop-name-preserved : goal.loop-name-preserved
loop-name-preserved g c =
    let k = c.loop-name.name-index in
    let all = c.args.unread.now in
    record {
      prints = subst (λ text. Took g.W.Sink text c.args.out.now c.print_name.new.out)
          (sym (ap (shown_texts c.args.options) (ap (map Unreadable) (map_more (λ (text : Bor (List ℕ)). text.now) all k _ c.loop-name-test.true) ∙ map-append Unreadable (texts_of (take k all)) (_ ∷ []))
          ∙ shown-push c.args.options (map Unreadable (texts_of (take k all))) _))
          (Took-join g.W.Sink _ _ _ _ _ c.loop-name.invariant.prints c.in_ok-print_name.ensures.prints);
      works = c.in_ok-print_name.ensures.works;
    }
