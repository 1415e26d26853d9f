use Rattle.std.proofs.Common.{◌≡◌, ◌+◌, ◌-◌, length, ap, ◌∙◌, arith}
use Rattle.twox_words.proofs.CopyFacts.{both_ends}
use Rattle.twox_words.proofs.copies.copy_ends.Goals as goal

pub returns : goal.returns
returns g c =
    rw (c.copy_chunk-2.ensures, c.copy_chunk.ensures) (both_ends _ (length c.args.from.now - _) c.args.to.now c.args.from.now c.requires.same (omega arith) (omega arith))
