use Rattle.xxhsum_app.proofs.Prelude.{inl, map}
use Rattle.xxhsum_app.proofs.run.audit_below.Goals as goal

pub returns-in-Ok : goal.returns-in-Ok
returns-in-Ok g c =
    let files = map (λ file. file.items) c.in-Ok.walked.files.items in
    let unread = map (λ name. name.items) c.in-Ok.walked.unread.items in
    inl (files, unread, c.files_below.new.err, rw c.messages.ensures.value at c.in-Ok.ensures, rw (c.deref.ensures.value, c.deref-in-Ok.ensures.value) at c.audit_names.ensures)
