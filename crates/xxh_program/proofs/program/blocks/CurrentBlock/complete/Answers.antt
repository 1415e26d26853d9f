use Rattle.std.proofs.Common.{Some, ◌≡◌, ◌<◌, ◌+◌, ◌*◌, ◌/◌, ◌%◌, ◌++◌, length, drop, arith, sym, ap, ◌∙◌, subst}
use Rattle.twox_hash.specs.Secret.{default_secret}
use Rattle.twox_hash.specs.Value.{xxh3_128}
use Rattle.xxh_program.specs.Blocks.{offset_line, added_lines}
use Rattle.xxh_program.specs.Streams.{FollowsDefault}
use Rattle.xxh_program.proofs.BlockFacts.{counts_at_end, rest_at_end, added_at_end, next_offset, effective-default}
use Rattle.xxh_program.proofs.program.blocks.CurrentBlock.complete.Goals as goal

pub returns-clause-follows : goal.returns-clause-follows
returns-clause-follows c = λ m before.
    let b = c.args.self.now.size in
    let d = c.args.front.now in
    let some : 0 < b = omega (arith, c.requires) in
    let ends : length m % b + length d ≡ b = omega (arith, before.size, c.requires) in
    let bytes = drop (length m / b * b) m ++ d in
    let fed = c.write.ensures.message (Some 0) default_secret (drop (length m / b * b) m) before.follows in
    let value : c.finish_128.result ≡ xxh3_128 0 default_secret bytes =
    c.finish_128.ensures.message (Some 0) default_secret bytes fed ∙ ap (λ s. xxh3_128 0 s bytes) (effective-default bytes) in
    let line : offset_line c.args.self.now.offset c.finish_128.result ≡ added_lines b m d =
    rw (before.start, value) (sym (added_at_end b m d some ends)) in (
      record {
        size = sym (counts_at_end b m d some ends).1;
        start = c.saturating_add-self.ensures ∙ next_offset b (length m / b) c.args.self.now.offset (length (m ++ d) / b) before.start (counts_at_end b m d some ends).0;
        follows = subst (FollowsDefault c.empty_stream-self.result) (sym (rest_at_end b m d some ends)) c.empty_stream-self.ensures;
      },
      sym (c.offset_line-line.ensures ∙ line),
    )
