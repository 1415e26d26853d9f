use Rattle.std.proofs.Common.{Err, refl, subst}
use Rattle.xxh_io.specs.Digest.{Writes}
use Rattle.xxhsum_output.specs.Shown.{shown}
use Rattle.xxhsum_output.specs.Visible.{is_shown, terminal_of}
use Rattle.xxhsum_output.proofs.visible.VisibleSink.write.Goals as goal

pub returns-in-Err-clause-refuses : goal.returns-in-Err-clause-refuses
returns-in-Err-clause-refuses g c =
    let text = shown (is_shown c.args.self.now) c.args.bytes.now in
    let refused = subst (λ e. Writes {T = Unit {0}} g.W.Sink text (terminal_of c.args.self.now) c.write_visible.new.w (Err e)) c.in-Err.ensures.only c.in-Err.ensures.writes in
    (refl, (text, refused))
