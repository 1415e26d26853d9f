use Rattle.std.proofs.Common.{◌≡◌, ap, ◌∙◌, arith}
use Rattle.twox_core.specs.AfterWrite.{no_bytes, state_over}
use Rattle.twox_core.proofs.StreamFacts.{stands_cleared}
use Rattle.twox_c.specs.State3.{core_of}
use Rattle.twox_c.proofs.xxh3_state.Xxh3State.reset_copy.Goals as goal

pub returns-clause-empty : goal.returns-clause-empty
returns-clause-empty c =
    let buffer = c.args.self.now.buffer in
    let core : core_of c.set_owner.new.self ≡ state_over no_bytes buffer = ap core_of c.set_owner.ensures.others ∙ ap (λ t. state_over t buffer) c.new-self.ensures in
    record {
      usable = record {
        mark = c.set_owner.ensures.mark;
        in_range = rw (core, c.copy_from_slice.ensures.after) (record { place = omega arith; within = omega arith; left = omega arith });
      };
      message = rw (core, c.copy_from_slice.ensures.after, c.set_owner.ensures.seed) (stands_cleared (λ x. x) (record { seed = c.args.seed; secret = c.args.secret.now }) buffer);
    }
