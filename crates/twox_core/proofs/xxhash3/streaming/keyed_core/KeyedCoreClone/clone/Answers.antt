use Rattle.std.proofs.Common.{refl, subst}
use Rattle.twox_core.specs.CoreView.{CoreView}
use Rattle.twox_core.specs.Represents.{IsCopy}
use Rattle.twox_core.specs.StreamState.{state_of}
use Rattle.twox_core.proofs.StreamFacts.{stands_copied}
use Rattle.twox_core.proofs.xxhash3.streaming.keyed_core.KeyedCoreClone.clone.Goals as goal

pub returns : goal.returns
returns g c =
    let bytes = g.K.Key.bytes in
    let same = g.met.K.ClonedKey.copies c.self.inside.key c.in_ok-key.key c.in_ok-key.ensures.cases in
    let copy : CoreView g.row.K-Held.Denot = record { key = g.K.Key.key c.in_ok-key.key; state = state_of c.self.inside.state } in
    record { cases = subst (λ h. IsCopy bytes h copy) c.self.view_is (stands_copied bytes _ copy same.0 same.1 refl) }
