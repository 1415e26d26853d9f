use Rattle.xxhsum_program.proofs.Prelude.{[], ◌++◌, ◌+◌, ◌∷◌, ◌≡◌, Comes, EmitsOrNone, Err, drop, files_of, is_digested, map, name_events, refl, rules_of, style_of, subst, sym, take}
use Rattle.xxhsum_program.proofs.EachFacts.{EachHas-push, list_all-push, map-more, map-split}
use Rattle.xxhsum_program.proofs.HashFacts.{is-err, names-stop}
use Rattle.xxhsum_program.proofs.OrderFacts.{emits-append}
use Rattle.xxhsum_program.proofs.OutcomeFacts.{lines-push}
use Rattle.xxhsum_program.proofs.hash.hash_names.Goals as goal
use Rattle.xxhsum_program.proofs.hash.hash_names.Goals.{then-all, else-all}

pub loop-name-init : goal.loop-name-init
loop-name-init g c = record {
  outcomes = [];
  each = tt;
  emits = (refl, refl);
  all = refl;
  works = c.requires;
}

pub loop-name-preserved : goal.loop-name-preserved
loop-name-preserved g c =
    let so_far = c.loop-name.invariant in
    let k = c.loop-name.name-index in
    let names = map (λ name. name.items) (take k c.args.names.now) in
    let name = c.name-item.result.items in
    let outcome = c.outcome_of-outcome.result in
    let longer : map (λ name. name.items) (take (k + 1) c.args.names.now) ≡ names ++ name ∷ [] =
    map-more (λ name. name.items) c.args.names.now k c.name-item.result c.loop-name-test.true c.name-item.is in
    let kind = c.args.context.now.options.kind in
    let style = style_of c.args.context.now.options in
    let rules = rules_of g.W.Sink g.W.Output.held g.W.Output.has_lost g.E.Sink in
    let emits = rw c.deref-in-loop-name.ensures.value at c.in_ok-write_outcome.ensures.emits in
    rw longer record {
      outcomes = so_far.outcomes ++ outcome ∷ [];
      each = EachHas-push _ names so_far.outcomes name outcome so_far.each (rw (sym c.deref.ensures.value) c.outcome_of-outcome.ensures);
      emits = rw (lines-push _ (name_events kind style) names so_far.outcomes name outcome so_far.each) (emits-append rules _ _ c.args.streams.now c.loop-name.streams c.write_outcome.new.streams so_far.emits emits);
      all = rw (list_all-push is_digested so_far.outcomes outcome, sym so_far.all)
          (elim c.if-all.branch [
            | then-all w ↦ rw (w.all-is, w.if-all.true) w.is_digested-all.ensures
            | else-all w ↦ rw (w.all-is, w.if-all.false) refl
          ]);
      works = c.in_ok-write_outcome.ensures.works;
    }

pub returns-in_err-write_outcome : goal.returns-in_err-write_outcome
returns-in_err-write_outcome g c =
    let so_far = c.loop-name.invariant in
    let k = c.loop-name.name-index in
    let kind = c.args.context.now.options.kind in
    let style = style_of c.args.context.now.options in
    let stop = c.in_err-write_outcome.field-0.0 in
    rw (is-err c.from_residual.result stop c.from_residual.ensures.1)
    (names-stop (rules_of g.W.Sink g.W.Output.held g.W.Output.has_lost g.E.Sink) (Comes (files_of g.S.Store g.S.File.Source c.args.context.now.store.now) kind) kind style _ (map (λ name. name.items) (take k c.args.names.now)) (map (λ name. name.items) (drop (k + 1) c.args.names.now)) so_far.outcomes c.name-item.result.items c.outcome_of-outcome.result c.args.streams.now c.loop-name.streams c.write_outcome.new.streams stop
    (map-split (λ name. name.items) c.args.names.now k c.name-item.result c.loop-name-test.true c.name-item.is)
    so_far.each (rw c.deref.ensures.value at c.outcome_of-outcome.ensures) so_far.emits
    (subst (λ bytes. EmitsOrNone {T = Unit {0}} (rules_of g.W.Sink g.W.Output.held g.W.Output.has_lost g.E.Sink) (name_events kind style bytes c.outcome_of-outcome.result) c.loop-name.streams c.write_outcome.new.streams (Err stop)) c.deref-in-loop-name.ensures.value c.in_err-write_outcome.ensures.emits))
