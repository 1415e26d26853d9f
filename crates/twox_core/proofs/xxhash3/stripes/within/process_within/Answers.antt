use Rattle.twox_core.proofs.Prelude.{◌+◌, ◌/◌, ◌<◌, ◌∙◌, ◌≡◌, arith, length, secret_bytes, stripes_of, sym}
use Rattle.twox_core.proofs.BlockFacts.{stripes_within, stripes_to_block_end}
use Rattle.twox_core.proofs.xxhash3.stripes.within.process_within.Goals as goal

pub returns-then-place-lt-STRIPES_IN_BLOCK : goal.returns-then-place-lt-STRIPES_IN_BLOCK
returns-then-place-lt-STRIPES_IN_BLOCK g c =
    let s = secret_bytes c.args.secret in
    let xs = c.args.bytes.now in
    let a = c.args.from in
    let low : a.current_stripe + length xs / 64 < stripes_of s = omega arith in
    record { exact = rw c.accumulate_within-taken.ensures (sym (stripes_within s xs a (length xs / 64) low)); place = low }

pub returns : goal.returns
returns g c =
    let s = secret_bytes c.args.secret in
    let xs = c.args.bytes.now in
    let a = c.args.from in
    let full : a.current_stripe + length xs / 64 ≡ 16 = omega arith in
    let some : 0 < stripes_of s = omega arith in
    record {
      exact = c.starting_with.ensures
          ∙ rw (c.round_scramble.ensures, c.last_stripe.ensures, c.accumulate_within-taken.ensures)
          (sym (stripes_to_block_end s xs a (length xs / 64) c.requires.all c.requires.place full));
      place = rw c.starting_with.ensures some;
    }
