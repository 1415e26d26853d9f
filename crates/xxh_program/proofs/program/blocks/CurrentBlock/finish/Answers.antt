use Rattle.std.proofs.Common.{Some, ◌≡◌, ◌<◌, ◌*◌, ◌/◌, ◌%◌, List, ℕ, length, drop, arith, sym, ap, ◌∙◌, subst}
use Rattle.twox_hash.specs.Secret.{default_secret}
use Rattle.twox_hash.specs.Value.{xxh3_128}
use Rattle.xxh_program.specs.Blocks.{offset_line, last_lines}
use Rattle.xxh_io.specs.Digest.{Writes}
use Rattle.xxh_program.proofs.BlockFacts.{last_short, effective-default}
use Rattle.xxh_program.proofs.program.blocks.CurrentBlock.finish.Goals as goal

pub returns-clause-writes : goal.returns-clause-writes
returns-clause-writes g c = λ m before.
    let b = c.args.self.now.size in
    let bytes = drop (length m / b * b) m in
    let inside : c.args.self.now.count < b = c.args.self.now.short in
    let some : 0 < b = omega arith in
    let short : 0 < length m % b = omega (arith, before.size, c.if-self-eq0.false) in
    let value : c.finish_128.result ≡ xxh3_128 0 default_secret bytes =
    c.finish_128.ensures.message (Some 0) default_secret bytes before.follows ∙ ap (λ s. xxh3_128 0 s bytes) (effective-default bytes) in
    let line : offset_line c.args.self.now.offset c.finish_128.result ≡ last_lines b m =
    rw (before.start, value) (sym (last_short b m some short)) in
    subst (λ (bytes : List ℕ). Writes g.W.Sink bytes c.args.w.now c.write_all.new.w c.write_all.result) (c.offset_line-line.ensures ∙ line) c.write_all.ensures.writes
