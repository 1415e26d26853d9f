use Rattle.std.proofs.Common.{arith, Some, take}
use Rattle.std.proofs.lemmas.List.{length-take-le}
use Rattle.twox_core.specs.Secret.{derived_secret}
use Rattle.twox_core.proofs.StateFacts.{short_finish, state_of_short, state_size-short}
use Rattle.twox_core.proofs.xxhash3.streaming.stream_state.StreamState.finish_derived.Goals as goal

pub returns-then-self-le16-clause-exact : goal.returns-then-self-le16-clause-exact
returns-then-self-le16-clause-exact g c =
    let m = take c.args.self.now.used c.args.self.now.short in
    let few = length-take-le c.args.self.now.used c.args.self.now.short (omega arith) in
    let whole = short_finish (g.F.Finalize.small_of c.args.finalize.now) (g.F.Finalize.large_of c.args.finalize.now) (Some c.args.seed) (derived_secret c.args.seed) m (omega (arith, few)) in
    rw (state_of_short c.args.self.now c.in-None.is, whole) (rw c.default_secret.ensures at c.small.ensures)

pub returns-then-self-le16-clause-size : goal.returns-then-self-le16-clause-size
returns-then-self-le16-clause-size g c = state_size-short c.args.self.now c.in-None.is c.requires.few (omega arith)
