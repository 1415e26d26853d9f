use Rattle.std.proofs.Common.{◌++◌, refl, sym, subst, arith}
use Rattle.twox_core.specs.AfterWrite.{core_after_write}
use Rattle.twox_core.specs.Represents.{Represents}
use Rattle.twox_core.proofs.StreamFacts.{stands_written}
use Rattle.twox_c.specs.State3.{stream_of}
use Rattle.twox_c.proofs.xxh3_state.Xxh3State.update.Goals as goal

pub returns-clause-exact : goal.returns-clause-exact
unfolding core_after_write
returns-clause-exact c = λ _.
    let exact = rw c.lent-secret.ensures at c.write.ensures.exact in
    rw exact refl

pub returns-clause-message : goal.returns-clause-message
returns-clause-message c = λ seed s m given.
    let d = c.args.input.now in
    let usable = given.usable in
    let size = c.write.ensures.size in
    record {
      usable = record {
        mark = usable.mark;
        in_range = rw c.lent-secret.ensures at c.write.ensures.in_range;
      };
      message = subst (λ h. Represents (λ x. x) h seed s (m ++ d)) (sym (returns-clause-exact c usable))
          (stands_written (λ x. x) (stream_of c.args.self.now) seed s m d (omega (arith, usable.in_range.place)) (omega (arith, size)) (omega (arith, size)) (omega (arith, size, usable.in_range.within)) given.message);
    }
