use Rattle.xxhsum_program.proofs.Prelude.{◌++◌, ◌∙◌, ◌≡◌, ap, escape, escaped, escaped_more, get_or, plain_names_stay, subst, sym, take, take_all}
use Rattle.xxhsum_program.specs.Eprints.{Eprints}
use Rattle.xxhsum_program.proofs.EprintFacts.{reports-more}
use Rattle.xxhsum_program.proofs.stderr.eprint_escaped.Goals as goal

pub returns-then-not-needs_escape : goal.returns-then-not-needs_escape
returns-then-not-needs_escape g c =
    subst (λ bytes. Eprints g.E.Sink bytes c.args.err.now c.eprint.new.err) (sym (plain_names_stay c.args.text.now (sym c.needs_escape.ensures ∙ c.if-not-needs_escape.true))) c.eprint.ensures

pub loop-byte-preserved : goal.loop-byte-preserved
loop-byte-preserved g c =
    let text = c.args.text.now in
    let i = c.loop-byte.byte-index in
    let more : escaped (take i text) ++ c.escape.result.now ≡ escaped (take i text) ++ escape (get_or text i 0) = ap (λ byte. escaped (take i text) ++ byte) c.escape.ensures in
    subst (λ bytes. Eprints g.E.Sink bytes c.args.err.now c.eprint-in-loop-byte.new.err) (more ∙ sym (escaped_more text i c.loop-byte-test.true))
    (reports-more g.E.Sink _ _ _ _ _ c.loop-byte.invariant c.eprint-in-loop-byte.ensures)

pub returns : goal.returns
returns g c =
    subst (λ bytes. Eprints g.E.Sink (escaped bytes) c.args.err.now c.loop-byte.err) (take_all c.loop-byte.byte-index c.args.text.now c.loop-byte-test.false) c.loop-byte.invariant
