use Rattle.xxhsum_app.proofs.Prelude.{ListNames, ListNone, end_of, files_of, inl, input_of, map}
use Rattle.xxhsum_program.specs.Run.{PerformsAs}
use Rattle.xxhsum_app.proofs.FindFacts.{found-is}
use Rattle.xxhsum_app.proofs.run.walk_names.Goals as goal

pub returns-then-context : goal.returns-then-context
unfolding PerformsAs
returns-then-context g c =
    let lists = map (λ list. list.items) c.args.lists.now in
    let listed = found-is g.E.Sink (λ all. ListNames (files_of g.S.Store g.S.File.Source c.args.context.now.store.now) (input_of g.R.Source c.args.input) (end_of c.args.context.now.options.names_from) lists (map (λ name. name.items) all.items))
    (ListNone (files_of g.S.Store g.S.File.Source c.args.context.now.store.now) (input_of g.R.Source c.args.input) lists) c.messages.result.now c.names_listed.new.err c.in_ok-names.field-0 c.in-Some.names c.in-Some.is c.in_ok-names.ensures in
    let says = rw (c.deref.ensures.value, listed.1, c.messages.ensures.value) at c.check_lists.ensures in
    inl (map (λ name. name.items) c.in-Some.names.items, listed.0, rw c.if-context.true says)

pub returns : goal.returns
unfolding PerformsAs
returns g c =
    let lists = map (λ list. list.items) c.args.lists.now in
    let listed = found-is g.E.Sink (λ all. ListNames (files_of g.S.Store g.S.File.Source c.args.context.now.store.now) (input_of g.R.Source c.args.input) (end_of c.args.context.now.options.names_from) lists (map (λ name. name.items) all.items))
    (ListNone (files_of g.S.Store g.S.File.Source c.args.context.now.store.now) (input_of g.R.Source c.args.input) lists) c.messages.result.now c.names_listed.new.err c.in_ok-names.field-0 c.in-Some.names c.in-Some.is c.in_ok-names.ensures in
    let says = rw (c.deref-2.ensures.value, listed.1, c.messages.ensures.value) at c.hash_names.ensures in
    inl (map (λ name. name.items) c.in-Some.names.items, listed.0, rw c.if-context.false says)
