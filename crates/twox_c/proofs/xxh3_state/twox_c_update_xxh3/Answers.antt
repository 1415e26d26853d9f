use Rattle.std.proofs.Common.{◌++◌, refl, sym, subst, arith}
use Rattle.twox_core.specs.AfterWrite.{core_after_write}
use Rattle.twox_core.specs.Represents.{Represents}
use Rattle.twox_core.proofs.StreamFacts.{stands_written}
use Rattle.twox_c.specs.State3.{stream_with}
use Rattle.twox_c.proofs.xxh3_state.twox_c_update_xxh3.Goals as goal

pub returns-clause-exact : goal.returns-clause-exact
unfolding core_after_write
returns-clause-exact c = λ _.
    let exact = rw c.in-Ok.ensures.1 at c.write.ensures.exact in
    rw exact refl

pub returns-clause-message : goal.returns-clause-message
returns-clause-message c = λ seed m given.
    let d = c.args.input.now in
    let s = c.args.secret.now in
    let usable = given.usable in
    let size = c.write.ensures.size in
    record {
      usable = record {
        mark = usable.mark;
        long_enough = usable.long_enough;
        in_range = rw c.in-Ok.ensures.1 at c.write.ensures.in_range;
      };
      message = subst (λ h. Represents (λ x. x) h seed s (m ++ d)) (sym (returns-clause-exact c usable))
          (stands_written (λ x. x) (stream_with c.args.state.now s) seed s m d (omega (arith, usable.in_range.place)) (omega (arith, size)) (omega (arith, size)) (omega (arith, size, usable.in_range.within)) given.message);
    }
