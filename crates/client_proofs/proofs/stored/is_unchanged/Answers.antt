use Rattle.std.proofs.Common.{rules, ◌≡◌, refl, sym, subst}
use Rattle.twox_hash.specs.ChangedUnit.{IsUnit32}
use Rattle.client_proofs.proofs.stored.is_unchanged.Goals as goal

pub returns-clause-notices : goal.returns-clause-notices
returns-clause-notices c = λ m from size bytes stored unit differs yes.
    let same : c.oneshot.result ≡ c.args.stored = search (yes, rules) in
    c.oneshot.ensures.changed_unit m from size bytes
    (subst (λ n. IsUnit32 n from size) (sym differs.lengths) unit)
    (record { lengths = sym differs.lengths; other = λ e. differs.other (sym e); outside = λ k out. sym (differs.outside k out) })
    (rw (same, stored) refl)
