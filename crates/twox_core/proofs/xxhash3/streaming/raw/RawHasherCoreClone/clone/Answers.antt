use Rattle.twox_core.proofs.Prelude.{CoreView, IsCopy, refl, subst}
use Rattle.twox_core.proofs.StreamFacts.{stands_copied}
use Rattle.twox_core.proofs.xxhash3.streaming.raw.RawHasherCoreClone.clone.Goals as goal

pub returns : goal.returns
returns g c =
    let bytes = g.S.FixedBuffer.bytes in
    let same = c.in_ok-secret_buffer.ensures.cases in
    let copy : CoreView g.row.S.Denot = record { key = c.in_ok-secret_buffer.secret_buffer; state = c.self.inside.state } in
    record { cases = subst (λ h. IsCopy bytes h copy) c.self.view_is (stands_copied bytes _ copy same.0 same.1 refl) }
