use Rattle.std.proofs.Common.{List, ℕ, ◌<◌, subst, arith}
use Rattle.xxh_io.specs.Digest.{Writes}
use Rattle.xxh_io.proofs.HexPlace.{line_in_place}
use Rattle.xxh_io.proofs.write.write_line.Goals as goal

pub returns-clause-writes : goal.returns-clause-writes
returns-clause-writes g c =
    let fits : c.args.digits < 33 = omega arith in
    subst (λ (line : List ℕ). Writes g.W.Sink line c.args.w.now c.write_all.new.w c.write_all.result) (line_in_place 33 c.args.digits c.args.value c.write_digits.new.out fits c.write_digits.ensures.digits) c.write_all.ensures.writes
