use Rattle.xxhsum_app.proofs.Prelude.{ListSays, ListSaysNothing, entry_item, files_of, inl, map}
use Rattle.xxhsum_app.proofs.FindFacts.{found-is}
use Rattle.xxhsum_app.proofs.audit.audit_list.Goals as goal

pub returns : goal.returns
returns g c =
    let little = c.args.context.now.options.is_little_endian in
    let listed = found-is g.E.Sink (λ all. ListSays (files_of g.S.Store g.S.File.Source c.args.context.now.store.now) little c.args.list.now (map entry_item all.items)) (ListSaysNothing (files_of g.S.Store g.S.File.Source c.args.context.now.store.now) little c.args.list.now) c.messages.result.now c.read_list.new.err c.in_ok-entries.field-0 c.in-Some.entries c.in-Some.is c.in_ok-entries.ensures in
    inl (map entry_item c.in-Some.entries.items, listed.0, rw (c.deref.ensures.value, listed.1, c.messages.ensures.value) at c.audit_lines.ensures)
