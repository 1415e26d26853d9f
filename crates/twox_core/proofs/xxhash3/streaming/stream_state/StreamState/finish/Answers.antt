use Rattle.std.proofs.Common.{arith, Some, None, take}
use Rattle.std.proofs.lemmas.List.{length-take-le}
use Rattle.twox_core.proofs.Prelude.{secret_bytes}
use Rattle.twox_core.proofs.StateFacts.{short_finish, state_of_long, state_of_short, state_size-long, state_size-short}
use Rattle.twox_core.proofs.xxhash3.streaming.stream_state.StreamState.finish.Goals as goal

pub finish-requires : goal.finish-requires
finish-requires g c = rw (state_of_long c.args.self.now c.in-Some.state c.in-Some.is) at c.requires.range

pub returns-in-Some-clause-exact : goal.returns-in-Some-clause-exact
returns-in-Some-clause-exact g c = rw (state_of_long c.args.self.now c.in-Some.state c.in-Some.is) c.finish.ensures.exact

pub returns-in-Some-seed-clause-exact : goal.returns-in-Some-seed-clause-exact
returns-in-Some-seed-clause-exact g c =
    let m = take c.args.self.now.used c.args.self.now.short in
    let few = length-take-le c.args.self.now.used c.args.self.now.short (omega arith) in
    let whole = short_finish (g.F.Finalize.small_of c.args.finalize.now) (g.F.Finalize.large_of c.args.finalize.now) (Some c.in-Some-seed.seed) (secret_bytes c.args.secret) m (omega (arith, few)) in
    rw (state_of_short c.args.self.now c.in-None.is, c.in-Some-seed.is, whole) (rw c.default_secret.ensures at c.small.ensures)

pub returns-in-None-seed-clause-exact : goal.returns-in-None-seed-clause-exact
returns-in-None-seed-clause-exact g c =
    let m = take c.args.self.now.used c.args.self.now.short in
    let few = length-take-le c.args.self.now.used c.args.self.now.short (omega arith) in
    let whole = short_finish (g.F.Finalize.small_of c.args.finalize.now) (g.F.Finalize.large_of c.args.finalize.now) None (secret_bytes c.args.secret) m (omega (arith, few)) in
    rw (state_of_short c.args.self.now c.in-None.is, c.in-None-seed.is, whole) c.small-in-None-seed.ensures

pub returns-in-Some-clause-size : goal.returns-in-Some-clause-size
returns-in-Some-clause-size g c = state_size-long c.args.self.now c.in-Some.state c.in-Some.is (omega arith)

pub returns-in-Some-seed-clause-size : goal.returns-in-Some-seed-clause-size
returns-in-Some-seed-clause-size g c = state_size-short c.args.self.now c.in-None.is c.requires.few (omega arith)

pub returns-in-None-seed-clause-size : goal.returns-in-None-seed-clause-size
returns-in-None-seed-clause-size g c = state_size-short c.args.self.now c.in-None.is c.requires.few (omega arith)
