use Rattle.xxhsum_line.proofs.Prelude.{rules, ◌≡◌, ◌++◌, ◌∷◌, [], refl, ap, ◌∙◌, append_assoc, Some, None, Decides-eqb, strip_suffix_is, Lacks}
use Rattle.xxhsum_line.proofs.PartFacts.{end_before_space}
use Rattle.xxhsum_line.proofs.parts.tagged_parts.Goals as goal

pub returns-in_err-name : goal.returns-in_err-name
returns-in_err-name c =
    let inside = c.args.inside.now in
    let before = c.in_ok-before.before.now in
    let last = c.in_ok-before.digits.now in
    let whole : inside ≡ before ++ 32 ∷ last = search rules in
    let lacks : Lacks 32 last = search rules in
    let none = strip_suffix_is Decides-eqb before (41 ∷ 32 ∷ 61 ∷ []) None c.in_err-name.ensures.cases in
    rw c.from_residual-in_err-name.ensures
    (λ name digits p. none name (end_before_space inside before last name digits whole lacks p).0)

pub returns : goal.returns
returns c =
    let inside = c.args.inside.now in
    let before = c.in_ok-before.before.now in
    let last = c.in_ok-before.digits.now in
    let name = c.in_ok-name.name.now in
    let whole : inside ≡ before ++ 32 ∷ last = search rules in
    let lacks : Lacks 32 last = search rules in
    let front : before ≡ name ++ 41 ∷ 32 ∷ 61 ∷ [] = strip_suffix_is Decides-eqb before (41 ∷ 32 ∷ 61 ∷ []) (Some c.in_ok-name.name) c.in_ok-name.ensures.cases in
    (refl, (whole ∙ ap (λ x. x ++ 32 ∷ last) front ∙ append_assoc name (41 ∷ 32 ∷ 61 ∷ []) (32 ∷ last), lacks))
