use Rattle.std.proofs.Common.{◌++◌, ap, sym, ◌∙◌, append_assoc, map}
use Rattle.xxhsum_fs.proofs.EntryFacts.{entries_last, entries_more}
use Rattle.xxhsum_fs.specs.Entries.{entries_of, entry_of}
use Rattle.xxhsum_fs.proofs.entries.add_names.Goals as goal

pub loop-name-preserved : goal.loop-name-preserved
loop-name-preserved c =
    let before = map (λ name. name.items) c.loop-name.names.items in
    let name = c.in-Some.name.now in
    let rest = c.in-Some.rest.now in
    ap (λ x. x ++ entries_of rest) c.in_ok-add_entry.ensures ∙ append_assoc before (entry_of name) (entries_of rest)
    ∙ ap (λ x. before ++ x) (sym (entries_more name rest c.in-Some.ensures.1))
    ∙ ap (λ x. before ++ entries_of x) (sym c.in-Some.ensures.0) ∙ c.loop-name.invariant

pub returns : goal.returns
returns c =
    let before = map (λ name. name.items) c.loop-name.names.items in
    let left = c.loop-name.left.now in
    c.in_ok-add_entry-2.ensures ∙ ap (λ x. before ++ x) (sym (entries_last left c.in_default.ensures)) ∙ c.loop-name.invariant
