use Rattle.twox_plain.proofs.Prelude.{◌++◌, ◌+◌, ◌-◌, ◌≡◌, arith, length, length-take-le, refl, subst, sym, take}
use Rattle.twox_plain.specs.Core64.{core_after_stripes}
use Rattle.twox_plain.specs.Record64.{Represents, parts, after_write}
use Rattle.twox_plain.specs.StateInMemory64.{record_of, after_rest}
use Rattle.twox_plain.specs.declared.xxhash64.SavedState.{SavedState}
use Rattle.twox_plain.proofs.BlockStateFacts.{after_piece_short, after_piece_full, after_piece_empty}
use Rattle.twox_plain.proofs.Message64.{after_write_stands}
use Rattle.twox_plain.proofs.Usage64.{usage_marked}
use Rattle.twox_plain.proofs.xxhash64.StateInMemory.add_piece.Goals as goal
use Rattle.twox_plain.proofs.xxhash64.StateInMemory.add_piece.Goals.{then-used-gt0+else-used-input-lt-BYTES_IN_STRIPE, else-used-gt0}

pub returns-then-used-input-lt-BYTES_IN_STRIPE-clause-exact : goal.returns-then-used-input-lt-BYTES_IN_STRIPE-clause-exact
unfolding after_write
returns-then-used-input-lt-BYTES_IN_STRIPE-clause-exact c =
    let old = record_of c.args.self.now in
    let d = c.args.input.now in
    let used = c.usage-used.result in
    let width : used + length d - used ≡ length d = omega arith in
    let kept = usage_marked (used + length d) (omega arith) in
    rw (after_piece_short 32 core_after_stripes (parts old).state d (omega (arith, c.usage-used.ensures)) (omega (arith, c.usage-used.ensures)), c.set_usage.ensures, c.copy_short.ensures, c.saturating_add-self.ensures, c.into_u64.ensures, width, kept, c.usage-used.ensures) refl

pub returns-then-used-input-lt-BYTES_IN_STRIPE-clause-message : goal.returns-then-used-input-lt-BYTES_IN_STRIPE-clause-message
returns-then-used-input-lt-BYTES_IN_STRIPE-clause-message c = λ m stands.
    subst (λ (s : SavedState). Represents s (m ++ c.args.input.now)) (sym (returns-then-used-input-lt-BYTES_IN_STRIPE-clause-exact c)) (after_write_stands (record_of c.args.self.now) m c.args.input.now (omega arith) stands)

pub returns-clause-exact : goal.returns-clause-exact
unfolding after_write after_rest
returns-clause-exact c =
    let old = record_of c.args.self.now in
    let d = c.args.input.now in
    elim c.if-used-gt0.branch [
      | then-used-gt0+else-used-input-lt-BYTES_IN_STRIPE w ↦
          let room : length (take (32 - old.buffer_usage) d) ≡ 32 - old.buffer_usage = length-take-le (32 - old.buffer_usage) d (omega (arith, c.usage-used.ensures)) in
          rw (after_piece_full 32 core_after_stripes (parts old).state d (omega (arith, c.usage-used.ensures)) (omega (arith, c.usage-used.ensures)), c.add_stripes.ensures.exact, w.rest-is, w.self-is, w.set_core.ensures, w.write.ensures, w.core-core.ensures, w.copy_short-then-used-gt0.ensures, w.split_at.ensures.front, w.split_at.ensures.back, c.usage-used.ensures, room, c.saturating_add-self.ensures, c.into_u64.ensures) refl
      | else-used-gt0 w ↦
          rw (after_piece_empty 32 core_after_stripes (parts old).state d (omega (arith, c.usage-used.ensures)), c.add_stripes.ensures.exact, w.rest-is, w.self-is, c.saturating_add-self.ensures, c.into_u64.ensures) refl
    ]

pub returns-clause-message : goal.returns-clause-message
returns-clause-message c = λ m stands.
    subst (λ (s : SavedState). Represents s (m ++ c.args.input.now)) (sym (returns-clause-exact c)) (after_write_stands (record_of c.args.self.now) m c.args.input.now (omega arith) stands)
