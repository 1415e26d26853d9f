use Rattle.std.proofs.Common.{Err, ap, get_or, rules, subst}
use Rattle.xxh_io.specs.Digest.{Writes}
use Rattle.xxh_io.proofs.WriteFacts.{Writes-refused}
use Rattle.xxhsum_output.specs.Shown.{shown_all, shown_byte}
use Rattle.xxhsum_output.proofs.ShownFacts.{refuses-rest, takes-more}
use Rattle.xxhsum_output.proofs.visible.write_shown.Goals as goal

pub loop-byte-preserved : goal.loop-byte-preserved
loop-byte-preserved g c = record {
  works = search rules;
  took = takes-more g.W.Sink c.args.bytes.now c.loop-byte.byte-index c.args.w.now c.loop-byte.w c.write_byte.new.w c.loop-byte-test.true c.loop-byte.invariant.took c.in-Ok.ensures.writes;
}

pub returns-in-Err-clause-writes : goal.returns-in-Err-clause-writes
returns-in-Err-clause-writes g c =
    let bytes = c.args.bytes.now in
    let byte = get_or bytes c.loop-byte.byte-index 0 in
    let refused = subst (λ e. Writes {T = Unit {0}} g.W.Sink (shown_byte byte) c.loop-byte.w c.write_byte.new.w (Err e)) c.in-Err.ensures.only c.in-Err.ensures.writes in
    Writes-refused {T = Unit {0}} g.W.Sink (shown_all bytes) c.args.w.now c.write_byte.new.w (Err c.in-Err.error) (ap Err c.in-Err.ensures.only)
    (refuses-rest g.W.Sink bytes c.loop-byte.byte-index c.args.w.now c.loop-byte.w c.write_byte.new.w c.loop-byte-test.true c.loop-byte.invariant.took refused)
