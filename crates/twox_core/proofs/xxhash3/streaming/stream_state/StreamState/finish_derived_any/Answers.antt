use Rattle.std.proofs.Common.{◌≡◌, ◌∙◌, ap, arith, Some, sym, take, true}
use Rattle.std.proofs.lemmas.List.{length-take-le}
use Rattle.twox_core.proofs.Prelude.{nat_le, nat_tests, secret_bytes}
use Rattle.twox_core.specs.Finish.{state_finish}
use Rattle.twox_core.specs.Secret.{default_secret, derived_secret}
use Rattle.twox_core.proofs.StateFacts.{short_finish, state_of_long, state_of_short, state_size-long, state_size-short}
use Rattle.twox_core.proofs.Vectors.{derived_secret_none}
use Rattle.twox_core.proofs.xxhash3.streaming.stream_state.StreamState.finish_derived_any.Goals as goal

pub finish-requires : goal.finish-requires
finish-requires g c =
    let zero : c.args.seed ≡ 0 = omega (arith, c.if-seed-eq-DEFAULT_SEED.true) in
    rw (c.default_secret-then-seed-eq-DEFAULT_SEED.ensures, sym derived_secret_none) (rw (zero, state_of_long c.args.self.now c.in-Some.state c.in-Some.is) at c.requires.range)

pub finish-requires-else-seed-eq-DEFAULT_SEED : goal.finish-requires-else-seed-eq-DEFAULT_SEED
finish-requires-else-seed-eq-DEFAULT_SEED g c =
    let is : secret_bytes c.unwrap.result ≡ derived_secret c.args.seed = (rw c.unwrap.ensures at c.new.ensures).1 ∙ c.derived_secret-secret.ensures in
    rw is (rw (state_of_long c.args.self.now c.in-Some.state c.in-Some.is) at c.requires.range)

pub returns-in-None-clause-exact : goal.returns-in-None-clause-exact
returns-in-None-clause-exact g c =
    let m = take c.args.self.now.used c.args.self.now.short in
    let few = length-take-le c.args.self.now.used c.args.self.now.short (omega arith) in
    let whole = short_finish (g.F.Finalize.small_of c.args.finalize.now) (g.F.Finalize.large_of c.args.finalize.now) (Some c.args.seed) (derived_secret c.args.seed) m (omega (arith, few)) in
    rw (state_of_short c.args.self.now c.in-None.is, whole) (rw c.default_secret.ensures at c.small.ensures)

pub returns-then-state-into_u64-clause-exact : goal.returns-then-state-into_u64-clause-exact
unfolding state_finish
returns-then-state-into_u64-clause-exact g c =
    let test : nat_le c.in-Some.state.counts.total_bytes 240 ≡ true = grind (arith, nat_tests, c.if-state-into_u64.true) in
    rw (state_of_long c.args.self.now c.in-Some.state c.in-Some.is, test) c.finish_short.ensures.exact

pub returns-then-seed-eq-DEFAULT_SEED-clause-exact : goal.returns-then-seed-eq-DEFAULT_SEED-clause-exact
returns-then-seed-eq-DEFAULT_SEED-clause-exact g c =
    let zero : c.args.seed ≡ 0 = omega (arith, c.if-seed-eq-DEFAULT_SEED.true) in
    let same : derived_secret c.args.seed ≡ default_secret = ap derived_secret zero ∙ derived_secret_none in
    rw (state_of_long c.args.self.now c.in-Some.state c.in-Some.is, same) (rw c.default_secret-then-seed-eq-DEFAULT_SEED.ensures at c.finish.ensures.exact)

pub returns-else-seed-eq-DEFAULT_SEED-clause-exact : goal.returns-else-seed-eq-DEFAULT_SEED-clause-exact
returns-else-seed-eq-DEFAULT_SEED-clause-exact g c =
    let is : secret_bytes c.unwrap.result ≡ derived_secret c.args.seed = (rw c.unwrap.ensures at c.new.ensures).1 ∙ c.derived_secret-secret.ensures in
    rw (state_of_long c.args.self.now c.in-Some.state c.in-Some.is) (rw is at c.finish-else-seed-eq-DEFAULT_SEED.ensures.exact)

pub returns-in-None-clause-size : goal.returns-in-None-clause-size
returns-in-None-clause-size g c = state_size-short c.args.self.now c.in-None.is c.requires.few (omega arith)

pub returns-then-state-into_u64-clause-size : goal.returns-then-state-into_u64-clause-size
returns-then-state-into_u64-clause-size g c = state_size-long c.args.self.now c.in-Some.state c.in-Some.is (omega arith)

pub returns-then-seed-eq-DEFAULT_SEED-clause-size : goal.returns-then-seed-eq-DEFAULT_SEED-clause-size
returns-then-seed-eq-DEFAULT_SEED-clause-size g c = state_size-long c.args.self.now c.in-Some.state c.in-Some.is (omega arith)

pub returns-else-seed-eq-DEFAULT_SEED-clause-size : goal.returns-else-seed-eq-DEFAULT_SEED-clause-size
returns-else-seed-eq-DEFAULT_SEED-clause-size g c = state_size-long c.args.self.now c.in-Some.state c.in-Some.is (omega arith)
