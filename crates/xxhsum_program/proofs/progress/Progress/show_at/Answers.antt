use Rattle.std.proofs.Common.{◌-◌, refl, sym, subst}
use Rattle.xxhsum_program.specs.Eprints.{Eprints}
use Rattle.xxhsum_program.proofs.ProgressFacts.{shown-end, shown-line}
use Rattle.xxhsum_program.proofs.progress.Progress.show_at.Goals as goal

pub returns-then-count-eq0 : goal.returns-then-count-eq0
returns-then-count-eq0 g c = (
  refl,
  refl,
  refl,
  c.saturating_add-self.ensures,
  λ off. cc,
  subst (λ bytes. Eprints g.E.Sink bytes c.args.self.now.end c.clear_after.new.end) (sym (shown-end c.args.self.now.is_on c.args.self.now.size (c.args.now - c.args.self.now.started) c.args.self.now.count c.args.count c.if-self.true c.if-count-eq0.true)) c.clear_after.ensures,
)

pub returns-else-count-eq0 : goal.returns-else-count-eq0
returns-else-count-eq0 g c = (
  refl,
  refl,
  refl,
  c.saturating_add-self.ensures,
  λ off. cc,
  subst (λ bytes. Eprints g.E.Sink bytes c.args.self.now.end c.show_between.new.end) (sym (shown-line c.args.self.now.is_on c.args.self.now.size (c.args.now - c.args.self.now.started) c.args.self.now.count c.args.count c.if-self.true c.if-count-eq0.false)) (rw (c.saturating_add-self.ensures, c.saturating_sub-millis.ensures) at c.show_between.ensures),
)
