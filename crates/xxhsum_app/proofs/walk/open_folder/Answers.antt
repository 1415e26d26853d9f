use Rattle.xxhsum_app.proofs.Prelude.{[], ◌++◌, ◌∙◌, ◌∷◌, ◌≡◌, Closed, ClosesFor, EprintsLines, Opened, IsIn, MatchResult, OutOfMemory, ap, append-nil, below, closed_text, false, flat_map, kept_name, map, patterns_in, refl, reports-nothing, subst, sym, tree_of, waiting_in, with_slash, without}
use Rattle.xxhsum_app.proofs.VisitFacts.{sees-lost}
use Rattle.xxhsum_app.specs.Messages.{messages_of}
use Rattle.xxhsum_app.specs.Walk.{state_of}
use Rattle.xxhsum_app.proofs.walk.open_folder.Goals as goal

pub returns-in-Ok : goal.returns-in-Ok
returns-in-Ok g c =
    let name = c.args.name.now in
    let names = map (λ name. name.items) c.in-Ok.names.items in
    let ordered = map (λ name. name.items) c.in_order-ordered.result.items in
    let waiting = waiting_in c.args.waiting.now.items in
    let holds = subst (λ folder. g.S.Folders.holds c.args.store.now folder names) (c.deref.ensures.value ∙ c.in_ok-folder.ensures) c.in-Ok.ensures in
    let waits = c.in_ok-put_names-in-Ok.ensures
    ∙ ap (λ folder. map (below folder false) (map (λ name. name.items) c.deref-in-Ok-3.result.now) ++ waiting) (c.deref-in-Ok-2.ensures.value ∙ c.in_ok-folder.ensures)
    ∙ ap (λ all. map (below (with_slash name) false) (map (λ name. name.items) all) ++ waiting) c.deref-in-Ok-3.ensures.value in
    let kept = map (λ name. name.items) c.in_ok-kept-in-Ok.kept.items in
    let keeps = c.in_ok-kept-in-Ok.ensures ∙ ap (λ all. flat_map (kept_name (patterns_in (map (λ flag. flag.items) c.args.flags.now))) (map (λ name. name.items) all)) c.deref-in-Ok.ensures.value in
    (Opened name ordered, (refl, (kept, (names, holds, keeps), c.in_order-ordered.ensures)), waits, sym (append-nil _), sym (append-nil _), reports-nothing g.E.Sink c.args.err.now)

pub returns : goal.returns
returns g c =
    let name = c.args.name.now in
    let closes = subst (λ folder. ClosesFor g.S.Folders.closes c.args.store.now folder c.in-Err-Refused.field-0) (c.deref.ensures.value ∙ c.in_ok-folder.ensures) c.in-Err-Refused.ensures in
    let why = subst (λ error. ClosesFor g.S.Folders.closes c.args.store.now (with_slash name) error) c.in-Err-Refused.field-0-is closes in
    let adds = subst (λ refusal. MatchResult c.add_unread.result
    (λ _. (map (λ name. name.items) c.add_unread.new.unread.items ≡ map (λ name. name.items) c.args.walked.now.unread.items ++ name ∷ []) × EprintsLines g.E.Sink (closed_text name refusal) c.args.err.now c.add_unread.new.err)
    (λ stop. (stop ≡ OutOfMemory) × (c.add_unread.new.err ≡ c.args.err.now))) c.in-Err-Refused.refusal-is c.add_unread.ensures in
    sees-lost (IsIn (without (patterns_in (map (λ flag. flag.items) c.args.flags.now)) (tree_of g.S.Store g.S.Folders c.args.store.now)) name) (messages_of g.E.Sink c.args.err.now c.add_unread.new.err)
    (state_of c.args.waiting.now.items c.args.walked.now) (state_of c.args.waiting.now.items (record { files = c.args.walked.now.files; unread = c.add_unread.new.unread }))
    (Closed name c.in-Err-Refused.refusal) (refl, why) refl (sym (append-nil _)) c.add_unread.result adds
