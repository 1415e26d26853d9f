use Rattle.xxhsum_audit.proofs.Prelude.{◌<◌, ap, length, map, subst, sym, ◌∙◌, rules, map-append, ArePartsOf}
use Rattle.xxhsum_audit.proofs.PartFacts.{Stands, stands_last, stands_more}
use Rattle.xxhsum_audit.proofs.parts.cut_at.Goals as goal

pub loop-part-preserved : goal.loop-part-preserved
loop-part-preserved c =
    let longer = ap (λ xs. map (λ part. part.now) xs) c.in_ok-push.ensures.items ∙ map-append (λ part. part.now) c.loop-part.parts.items _ in
    subst (λ x. Stands c.args.end c.args.bytes.now x c.in-Some.rest.now) (sym longer)
    (stands_more c.args.end c.args.bytes.now _ c.loop-part.left.now c.in-Some.part.now c.in-Some.rest.now c.loop-part.invariant
    c.in-Some.ensures.0 c.in-Some.ensures.1)

pub returns : goal.returns
returns c =
    let left = c.loop-part.left.now in
    let some : 0 < length left = search rules in
    let longer = ap (λ xs. map (λ part. part.now) xs) c.in_ok-push-2.ensures.items ∙ map-append (λ part. part.now) c.loop-part.parts.items _ in
    subst (λ x. ArePartsOf c.args.end c.args.bytes.now x) (sym longer)
    (stands_last c.args.end c.args.bytes.now _ left c.loop-part.invariant some c.in_default.ensures)
