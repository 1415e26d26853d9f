use Rattle.xxhsum_program.proofs.Prelude.{◌∙◌, Ignored, Improper, IsFinding, IsGiven, Means, Proper, TooLong, files_of, refl, rules_of, subst, sym}
use Rattle.xxhsum_program.proofs.StopFacts.{line-entries}
use Rattle.xxhsum_program.proofs.check.ListCheck.check_line.Goals as goal

pub returns-in_default-clause-checks : goal.returns-in_default-clause-checks
returns-in_default-clause-checks g c = λ text given.
    (TooLong, subst (IsGiven text) c.in_default.is given, c.count_too_long.ensures.counts, c.count_too_long.ensures.emits)

pub returns-in-Comment-clause-checks : goal.returns-in-Comment-clause-checks
returns-in-Comment-clause-checks g c = λ text given.
    let is = subst (IsGiven text) c.in-Some.is given in
    let means = subst (Means c.args.self.now.options.is_little_endian text) c.in-Comment.is (rw is.1 at c.in_ok-entry.ensures.meaning) in
    (Ignored, (is.0, means), refl, (refl, refl))

pub returns-in-Malformed-clause-checks : goal.returns-in-Malformed-clause-checks
returns-in-Malformed-clause-checks g c = λ text given.
    let is = subst (IsGiven text) c.in-Some.is given in
    let means = subst (Means c.args.self.now.options.is_little_endian text) c.in-Malformed.is (rw is.1 at c.in_ok-entry.ensures.meaning) in
    (Improper, (is.0, means), c.count_improper.ensures.counts, c.count_improper.ensures.emits)

pub returns-then-is_silent-clause-checks : goal.returns-then-is_silent-clause-checks
returns-then-is_silent-clause-checks g c = λ text given.
    let is = subst (IsGiven text) c.in-Some.is given in
    let means = subst (Means c.args.self.now.options.is_little_endian text) c.in-Entry.is (rw is.1 at c.in_ok-entry.ensures.meaning) in
    let entry = c.in-Entry.entry in
    (Proper entry.name.items c.compare-found.result, (is.0, entry.kind, entry.value, means, c.compare-found.ensures), c.count.ensures, rw (sym c.is_silent.ensures ∙ c.if-is_silent.true) (refl, refl))

pub returns-clause-checks : goal.returns-clause-checks
returns-clause-checks g c = λ text given.
    let is = subst (IsGiven text) c.in-Some.is given in
    let means = subst (Means c.args.self.now.options.is_little_endian text) c.in-Entry.is (rw is.1 at c.in_ok-entry.ensures.meaning) in
    let entry = c.in-Entry.entry in
    line-entries (IsFinding (files_of g.S.Store g.S.File.Source c.args.self.now.store.now) c.args.self.now.options.is_little_endian text) (rules_of g.W.Sink g.W.Output.held g.W.Output.has_lost g.E.Sink) c.args.self.now.options c.args.self.now.name.now c.args.line.number entry.name.items c.deref.result.now c.compare-found.result c.args.report.now c.count.new.self c.args.streams.now c.print_found.new.out c.print_found.result (sym c.is_silent.ensures ∙ c.if-is_silent.false) c.deref.ensures.value (is.0, entry.kind, entry.value, means, c.compare-found.ensures) c.count.ensures c.print_found.ensures.prints
