use Rattle.std.proofs.Common.{sym, subst}
use Rattle.std.proofs.lemmas.Bool.{false≢true}
use Rattle.twox_hash.specs.Record64.{Represents}
use Rattle.client_proofs.proofs.records.save_and_go_on.Goals as goal

-- A record that represents a list is accepted, so this error doesn't occur.
pub returns-in_err-restored-clause-accepted : goal.returns-in_err-restored-clause-accepted
returns-in_err-restored-clause-accepted c = λ m stands.
    absurd (false≢true (c.in_err-restored.ensures.accepted m (subst (λ s. Represents s m) (sym c.to_state.ensures) stands)))
