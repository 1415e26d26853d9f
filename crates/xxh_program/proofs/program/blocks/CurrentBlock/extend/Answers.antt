use Rattle.std.proofs.Common.{Some, ◌<◌, ◌+◌, ◌*◌, ◌/◌, ◌%◌, ◌^◌, ◌-◌, min, length, drop, arith, sym, ap, ◌∙◌, subst}
use Rattle.twox_hash.specs.Secret.{default_secret}
use Rattle.xxh_program.specs.Streams.{FollowsDefault}
use Rattle.xxh_program.proofs.BlockFacts.{counts_inside, rest_inside, added_inside}
use Rattle.xxh_program.proofs.program.blocks.CurrentBlock.extend.Goals as goal

pub returns-clause-follows : goal.returns-clause-follows
returns-clause-follows c = λ m before.
    let b = c.args.self.now.size in
    let d = c.args.front.now in
    let short : length m % b + length d < b = omega (arith, before.size, c.requires) in (
      record {
        size = omega (arith, before.size, (counts_inside b m d short).1);
        start = before.start ∙ ap (λ k. min (k * b) (2 ^ 64 - 1)) (sym (counts_inside b m d short).0);
        follows = subst (FollowsDefault c.write.new.self) (sym (rest_inside b m d short)) (c.write.ensures.message (Some 0) default_secret (drop (length m / b * b) m) before.follows);
      },
      added_inside b m d short,
    )
