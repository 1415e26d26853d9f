use Rattle.std.proofs.Common.{ap, inl, map, ◌∙◌}
use Rattle.xxhsum_app.specs.Run.{all_well}
use Rattle.xxhsum_program.specs.Command.{has_none}
use Rattle.xxhsum_app.proofs.run.walk_folders.Goals as goal

pub returns-in-Ok : goal.returns-in-Ok
returns-in-Ok g c =
    let says = rw c.deref.ensures.value at c.hash_names-done.ensures in
    inl (map (λ file. file.items) c.in-Ok.walked.files.items, map (λ name. name.items) c.in-Ok.walked.unread.items, c.files_below.new.err, c.hash_names-done.result, rw c.messages.ensures.value at c.in-Ok.ensures, says, c.all_well.ensures ∙ ap (λ all. all_well all c.hash_names-done.result) (c.has_none.ensures ∙ ap (λ names. has_none (map (λ name. name.items) names)) c.deref-in-Ok.ensures.value))
