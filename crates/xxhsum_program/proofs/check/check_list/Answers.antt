use Rattle.std.proofs.Common.{[], false, inl, inr, None, refl, sym, ◌∙◌}
use Rattle.xxhsum_program.proofs.check.check_list.Goals as goal

pub returns-then-failed : goal.returns-then-failed
returns-then-failed g c =
    ([], None, ([], tt, (false, [], ([], c.args.source, tt, refl, inl (tt, refl)))), tt, inr (sym c.failed.ensures ∙ c.if-failed.true, refl, refl, refl))

pub returns : goal.returns
returns g c =
    let checks = c.check.ensures.checks in
    (checks.0, checks.1, rw c.watch.ensures.source at checks.2, checks.3, inl checks.4)
