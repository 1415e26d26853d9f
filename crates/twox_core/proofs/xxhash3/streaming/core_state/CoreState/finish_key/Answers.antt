use Rattle.twox_core.proofs.Prelude.{◌≡◌, arith, nat_le, nat_tests, true}
use Rattle.twox_core.specs.Finish.{state_finish}
use Rattle.twox_core.proofs.xxhash3.streaming.core_state.CoreState.finish_key.Goals as goal

pub returns-then-self-eq8-clause-exact : goal.returns-then-self-eq8-clause-exact
unfolding state_finish
returns-then-self-eq8-clause-exact g c =
    let test : nat_le c.args.self.now.counts.total_bytes 240 ≡ true = grind (arith, nat_tests) in
    rw test c.finish_word.ensures
