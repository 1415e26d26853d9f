use Rattle.std.proofs.Common.{sym, ◌∙◌}
use Rattle.xxhsum_program.specs.Run.{PerformsAs}
use Rattle.xxhsum_app.specs.Run.{PerformsWords}
use Rattle.xxhsum_app.proofs.run.perform_words.Goals as goal

pub returns-then-context : goal.returns-then-context
unfolding PerformsWords
returns-then-context g c = rw c.if-context.true c.walk_audit.ensures

pub returns-then-context-2 : goal.returns-then-context-2
unfolding PerformsWords
returns-then-context-2 g c = rw (c.if-context.false, c.if-context-2.true) c.walk_folders.ensures

pub returns-then-are_listed : goal.returns-then-are_listed
unfolding PerformsWords PerformsAs
returns-then-are_listed g c =
    rw (c.if-context.false, c.if-context-2.false, sym c.are_listed.ensures ∙ c.if-are_listed.true) c.walk_names.ensures

pub returns : goal.returns
unfolding PerformsWords PerformsAs
returns g c =
    rw (c.if-context.false, c.if-context-2.false, sym c.are_listed.ensures ∙ c.if-are_listed.false) c.perform.ensures
