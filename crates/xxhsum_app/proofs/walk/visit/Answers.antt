use Rattle.xxhsum_app.specs.Walk.{state_of}
use Rattle.xxhsum_app.specs.Messages.{messages_of}
use Rattle.xxhsum_app.proofs.Prelude.{[], ◌++◌, ◌∷◌, ◌≡◌, EprintsLines, MatchResult, OutOfMemory, IsIn, IsSeen, Leaf, Lost, Passed, Tree, append-nil, closed_text, map, patterns_in, place_of, refl, reports-nothing, subst, sym, tree_of, without}
use Rattle.xxhsum_app.proofs.VisitFacts.{folder-seen, sees-as, sees-lost}
use Rattle.xxhsum_app.proofs.walk.visit.Goals as goal

pub returns-in_ok-add_file-in-File : goal.returns-in_ok-add_file-in-File
returns-in_ok-add_file-in-File g c =
    let is_file = rw (c.deref.ensures.value, c.in-File.is) at c.kind_at.ensures in
    (Leaf c.args.place.name.items, (refl, is_file), refl, c.in_ok-add_file-in-File.ensures, sym (append-nil _), reports-nothing g.E.Sink c.args.err.now)

pub returns-in-Folder : goal.returns-in-Folder
returns-in-Folder g c =
    let tree : Tree = without (patterns_in (map (λ flag. flag.items) c.args.flags.now)) (tree_of g.S.Store g.S.Folders c.args.store.now) in
    let is_folder = rw (c.deref.ensures.value, c.in-Folder.is) at c.kind_at.ensures in
    sees-as (IsIn tree c.deref-in-Folder.result.now) (IsSeen tree (place_of c.args.place)) (messages_of g.E.Sink c.args.err.now c.open_folder.new.err)
    (state_of c.args.waiting.now.items c.args.walked.now) (state_of c.open_folder.new.waiting.items c.open_folder.new.walked)
    (λ seen found. folder-seen tree (place_of c.args.place) seen is_folder (rw c.deref-in-Folder.ensures.value at found))
    c.open_folder.result c.open_folder.ensures

pub returns-in-Other : goal.returns-in-Other
returns-in-Other g c =
    let is_other = rw (c.deref.ensures.value, c.in-Other.is) at c.kind_at.ensures in
    (Passed c.args.place.name.items, (refl, is_other), refl, sym (append-nil _), sym (append-nil _), reports-nothing g.E.Sink c.args.err.now)

pub returns-in-Unknown : goal.returns-in-Unknown
returns-in-Unknown g c =
    let is_lost = rw (c.deref.ensures.value, c.in-Unknown.is) at c.kind_at.ensures in
    let adds = subst (λ name. MatchResult c.add_unread.result
    (λ _. (map (λ name. name.items) c.add_unread.new.unread.items ≡ map (λ name. name.items) c.args.walked.now.unread.items ++ name ∷ []) × EprintsLines g.E.Sink (closed_text name c.in-Unknown.refusal) c.args.err.now c.add_unread.new.err)
    (λ stop. (stop ≡ OutOfMemory) × (c.add_unread.new.err ≡ c.args.err.now))) c.deref-in-Unknown.ensures.value c.add_unread.ensures in
    sees-lost (IsSeen (without (patterns_in (map (λ flag. flag.items) c.args.flags.now)) (tree_of g.S.Store g.S.Folders c.args.store.now)) (place_of c.args.place)) (messages_of g.E.Sink c.args.err.now c.add_unread.new.err)
    (state_of c.args.waiting.now.items c.args.walked.now) (state_of c.args.waiting.now.items (record { files = c.args.walked.now.files; unread = c.add_unread.new.unread }))
    (Lost c.args.place.name.items c.in-Unknown.refusal) (refl, is_lost) refl (sym (append-nil _)) c.add_unread.result adds
