use Rattle.twox_plain.proofs.Prelude.{◌+◌, ◌-◌, ◌≡◌, arith, length, length-take-le, refl, take}
use Rattle.twox_plain.specs.Core32.{core_after_stripes}
use Rattle.twox_plain.specs.Record32.{parts, after_write}
use Rattle.twox_plain.specs.StateInMemory32.{record_of, after_rest}
use Rattle.twox_plain.proofs.BlockStateFacts.{after_piece_short, after_piece_full, after_piece_empty}
use Rattle.twox_plain.proofs.Usage32.{usage_marked}
use Rattle.twox_plain.proofs.xxhash32.StateInMemory.take_piece.Goals as goal
use Rattle.twox_plain.proofs.xxhash32.StateInMemory.take_piece.Goals.{then-used-gt0+else-used-input-lt-BYTES_IN_STRIPE, else-used-gt0}

pub returns-then-used-input-lt-BYTES_IN_STRIPE : goal.returns-then-used-input-lt-BYTES_IN_STRIPE
unfolding after_write
returns-then-used-input-lt-BYTES_IN_STRIPE g c =
    let old = record_of c.args.self.now in
    let d = c.args.input.now in
    let used = c.usage-used.result in
    let width : used + length d - used ≡ length d = omega arith in
    let kept = usage_marked (used + length d) (omega arith) in
    record {
      exact = rw (after_piece_short 16 core_after_stripes (parts old).state d (omega (arith, c.usage-used.ensures)) (omega (arith, c.usage-used.ensures)), c.set_usage.ensures, c.copy_short.ensures, c.count.ensures.others, c.count.ensures.total, width, kept, c.usage-used.ensures) refl;
      seed = rw (c.set_usage.ensures, c.count.ensures.others) refl;
      in_range = rw (c.set_usage.ensures, kept) (omega arith);
    }

pub returns : goal.returns
unfolding after_write after_rest
returns g c =
    let old = record_of c.args.self.now in
    let d = c.args.input.now in
    elim c.if-used-gt0.branch [
      | then-used-gt0+else-used-input-lt-BYTES_IN_STRIPE w ↦
          let room : length (take (16 - old.buffer_usage) d) ≡ 16 - old.buffer_usage = length-take-le (16 - old.buffer_usage) d (omega (arith, c.usage-used.ensures)) in
          record {
            exact = rw (after_piece_full 16 core_after_stripes (parts old).state d (omega (arith, c.usage-used.ensures)) (omega (arith, c.usage-used.ensures)), c.add_rest.ensures.exact, w.rest-is, w.self-is, w.set_core.ensures, w.write.ensures, w.core-core.ensures, w.copy_short-then-used-gt0.ensures, w.split_at.ensures.front, w.split_at.ensures.back, c.usage-used.ensures, room, c.count.ensures.others, c.count.ensures.total) refl;
            seed = rw (c.add_rest.ensures.seed, w.self-is, w.set_core.ensures, c.count.ensures.others) refl;
            in_range = c.add_rest.ensures.in_range;
          }
      | else-used-gt0 w ↦ record {
        exact = rw (after_piece_empty 16 core_after_stripes (parts old).state d (omega (arith, c.usage-used.ensures)), c.add_rest.ensures.exact, w.rest-is, w.self-is, c.count.ensures.others, c.count.ensures.total) refl;
        seed = rw (c.add_rest.ensures.seed, w.self-is, c.count.ensures.others) refl;
        in_range = c.add_rest.ensures.in_range;
      }
    ]
