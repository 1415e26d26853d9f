use Rattle.xxhsum_app.specs.Messages.{messages_of}
use Rattle.xxhsum_app.proofs.Prelude.{[], ◌++◌, ◌∙◌, ◌∷◌, ◌≡◌, MatchResult, ap, append-nil, is-err, lines-more, map, map-append, option_to_list, patterns_in, refl, reports-nothing, reverse, subst, sym, true}
use Rattle.xxhsum_app.specs.Prelude.{EprintsLines, OutOfMemory}
use Rattle.xxhsum_app.proofs.RowFacts.{flat-push}
use Rattle.xxhsum_app.proofs.VisitFacts.{reverse-push, visits-more}
use Rattle.xxhsum_app.specs.Walk.{Visits, WalksAll, WalksSome, below, closed_in, closed_of, file_of, given, lost_of, place_of, tree_of, waiting_in, without}
use Rattle.xxhsum_app.proofs.walk.files_below.Goals as goal

pub returns-in_err-put_names : goal.returns-in_err-put_names
returns-in_err-put_names g c =
    let names = map (λ name. name.items) c.args.names.now in
    let is = is-err c.from_residual.result OutOfMemory c.from_residual.ensures.1 in
    subst (λ r. MatchResult r (λ walked. WalksAll (without (patterns_in (map (λ flag. flag.items) c.args.flags.now)) (tree_of g.S.Store g.S.Folders c.args.store.now)) (messages_of g.E.Sink c.args.err.now c.args.err.now) names (map (λ file. file.items) walked.files.items) (map (λ name. name.items) walked.unread.items))
    (WalksSome (without (patterns_in (map (λ flag. flag.items) c.args.flags.now)) (tree_of g.S.Store g.S.Folders c.args.store.now)) (messages_of g.E.Sink c.args.err.now c.args.err.now) names))
    (sym is) ([], map given names, refl, refl, reports-nothing g.E.Sink c.args.err.now)

pub loop-init : goal.loop-init
loop-init g c = record {
  trace = [];
  visits = c.in_ok-put_names.ensures ∙ ap (λ w. map (below [] true) (map (λ name. name.items) c.args.names.now) ++ waiting_in w) c.new-waiting.ensures.items ∙ append-nil _;
  files = ap (map (λ file. file.items)) c.new.ensures.items;
  unread = ap (map (λ name. name.items)) c.new-2.ensures.items;
  reports = reports-nothing g.E.Sink c.args.err.now;
}

pub returns-in_err-visit : goal.returns-in_err-visit
returns-in_err-visit g c =
    let so_far = c.loop.invariant in
    let names = map (λ name. name.items) c.args.names.now in
    let stop = c.in_err-visit.field-0.0 in
    let is = is-err c.from_residual-in_err-visit.result stop c.from_residual-in_err-visit.ensures.1 in
    subst (λ r. MatchResult r (λ walked. WalksAll (without (patterns_in (map (λ flag. flag.items) c.args.flags.now)) (tree_of g.S.Store g.S.Folders c.args.store.now)) (messages_of g.E.Sink c.args.err.now c.visit.new.err) names (map (λ file. file.items) walked.files.items) (map (λ name. name.items) walked.unread.items))
    (WalksSome (without (patterns_in (map (λ flag. flag.items) c.args.flags.now)) (tree_of g.S.Store g.S.Folders c.args.store.now)) (messages_of g.E.Sink c.args.err.now c.visit.new.err) names))
    (sym is) (so_far.trace, waiting_in c.loop.waiting.items, c.in_err-visit.ensures.0, so_far.visits, subst (λ e. EprintsLines g.E.Sink (closed_in so_far.trace) c.args.err.now e) (sym c.in_err-visit.ensures.1) so_far.reports)

pub loop-preserved : goal.loop-preserved
loop-preserved g c =
    let so_far = c.loop.invariant in
    let names = map (λ name. name.items) c.args.names.now in
    let left = c.pop.new.self.items in
    let place = c.in-Some.place in
    let sees = c.in_ok-visit.ensures in
    let seen = sees.0 in
    let popped : c.loop.waiting.items ≡ left ++ place ∷ [] = c.pop.ensures.items ∙ ap (λ o. left ++ option_to_list o) c.in-Some.is in
    let first : waiting_in c.loop.waiting.items ≡ place_of place ∷ waiting_in left = ap waiting_in popped ∙ ap reverse (map-append place_of left (place ∷ [])) ∙ reverse-push (map place_of left) (place_of place) in
    let visits = visits-more (without (patterns_in (map (λ flag. flag.items) c.args.flags.now)) (tree_of g.S.Store g.S.Folders c.args.store.now)) (map given names) so_far.trace (place_of place) (waiting_in left) seen
    (subst (λ w. Visits (without (patterns_in (map (λ flag. flag.items) c.args.flags.now)) (tree_of g.S.Store g.S.Folders c.args.store.now)) (map given names) so_far.trace w) first so_far.visits) sees.1 in
    record {
      trace = so_far.trace ++ seen ∷ [];
      visits = subst (λ w. Visits (without (patterns_in (map (λ flag. flag.items) c.args.flags.now)) (tree_of g.S.Store g.S.Folders c.args.store.now)) (map given names) (so_far.trace ++ seen ∷ []) w) (sym sees.2) visits;
      files = sees.3 ∙ ap (λ files. files ++ file_of seen) so_far.files ∙ sym (flat-push file_of so_far.trace seen);
      unread = sees.4 ∙ ap (λ names. names ++ lost_of seen) so_far.unread ∙ sym (flat-push lost_of so_far.trace seen);
      reports = subst (λ texts. EprintsLines g.E.Sink texts c.args.err.now c.visit.new.err) (sym (flat-push closed_of so_far.trace seen)) (lines-more g.E.Sink (closed_in so_far.trace) (closed_of seen) _ _ _ so_far.reports sees.5);
    }
