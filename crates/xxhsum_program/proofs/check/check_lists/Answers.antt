use Rattle.xxhsum_program.proofs.Prelude.{[], ◌++◌, ◌+◌, ◌∙◌, ◌∷◌, ◌≡◌, Bool, EmitsTo, Err, IsDone, append_assoc, drop, inl, inr, is_good_outcome, map, outcome_events, refl, rules, rules_of, subst, sym, take}
use Rattle.xxhsum_program.proofs.EachFacts.{EachHas-push, all-push, list_all-push, map-more, map-split}
use Rattle.xxhsum_program.proofs.HashFacts.{is-err}
use Rattle.xxhsum_program.proofs.OrderFacts.{emits-append, emits-join}
use Rattle.xxhsum_program.proofs.OutcomeFacts.{lines-push}
use Rattle.xxhsum_program.proofs.check.check_lists.Goals as goal
use Rattle.xxhsum_program.proofs.check.check_lists.Goals.{then-all, else-all}

pub loop-name-init : goal.loop-name-init
loop-name-init g c = record {
  outcomes = [];
  each = tt;
  finished = tt;
  all = refl;
  emits = (refl, refl);
  works = search rules;
}

pub loop-name-preserved : goal.loop-name-preserved
loop-name-preserved g c =
    let so_far = c.loop-name.invariant in
    let k = c.loop-name.name-index in
    let names = map (λ name. name.items) (take k c.args.names.now) in
    let name = c.name-item.result.items in
    let good = c.in_ok-good.good in
    let checked = rw c.deref.ensures.value at c.in_ok-good.ensures.checks in
    let outcome = checked.0 in
    let options = c.args.context.now.options in
    let longer : map (λ name. name.items) (take (k + 1) c.args.names.now) ≡ names ++ name ∷ [] =
    map-more (λ name. name.items) c.args.names.now k c.name-item.result c.loop-name-test.true c.name-item.is in
    rw longer record {
      outcomes = so_far.outcomes ++ outcome ∷ [];
      each = EachHas-push _ names so_far.outcomes name outcome so_far.each checked.1;
      finished = all-push IsDone so_far.outcomes outcome so_far.finished checked.2.0;
      all = rw (list_all-push (is_good_outcome options) so_far.outcomes outcome, sym so_far.all, sym checked.2.1)
          (elim c.if-all.branch [
            | then-all w ↦ rw (w.all-is, w.if-all.true) refl
            | else-all w ↦ rw (w.all-is, w.if-all.false) refl
          ]);
      emits = rw (lines-push _ (outcome_events options) names so_far.outcomes name outcome so_far.each)
          (emits-append (rules_of g.W.Sink g.W.Output.held g.W.Output.has_lost g.E.Sink) _ _ c.args.streams.now c.loop-name.streams c.check_named.new.streams so_far.emits checked.3);
      works = c.in_ok-good.ensures.works;
    }

pub returns-in_err-good : goal.returns-in_err-good
returns-in_err-good g c =
    let so_far = c.loop-name.invariant in
    let k = c.loop-name.name-index in
    let names = map (λ name. name.items) (take k c.args.names.now) in
    let after = map (λ name. name.items) (drop (k + 1) c.args.names.now) in
    let name = c.name-item.result.items in
    let stop = c.in_err-good.field-0.0 in
    let checked = rw c.deref.ensures.value at c.in_err-good.ensures.checks in
    let outcome = checked.0 in
    let options = c.args.context.now.options in
    let rules = rules_of g.W.Sink g.W.Output.held g.W.Output.has_lost g.E.Sink in
    let old = c.args.streams.now in
    let mid = c.loop-name.streams in
    let new = c.check_named.new.streams in
    rw (is-err c.from_residual.result stop c.from_residual.ensures.1) (
      so_far.outcomes ++ outcome ∷ [],
      names ++ name ∷ [],
      after,
      map-split (λ name. name.items) c.args.names.now k c.name-item.result c.loop-name-test.true c.name-item.is ∙ sym (append_assoc names (name ∷ []) after),
      EachHas-push _ names so_far.outcomes name outcome so_far.each checked.1,
      inr (so_far.outcomes, outcome, refl, so_far.finished),
      inl (subst (λ events. EmitsTo {T = Bool} rules events old new (Err stop)) (sym (lines-push _ (outcome_events options) names so_far.outcomes name outcome so_far.each)) (emits-join {T = Bool} rules _ _ old mid new (Err stop) so_far.emits (subst (λ bytes. EmitsTo {T = Bool} rules (outcome_events options bytes outcome) mid new (Err stop)) c.deref.ensures.value checked.3))),
    )

pub returns-then-failed : goal.returns-then-failed
returns-then-failed g c =
    ([], [], map (λ name. name.items) c.args.names.now, refl, tt, inl tt, inr (sym c.failed.ensures ∙ c.if-failed.true, refl, refl, refl))
