use Rattle.xxhsum_line.proofs.Prelude.{◌≡◌, None, Some, ap, subst, sym, ◌∙◌, MatchOption-at_none, TextSays, TextSaysNothing, body_of, is_escaped, name_meant, up_to_nul, without_return}
use Rattle.xxhsum_line.proofs.EntryFacts.{nothing_shown, nothing_meant}
use Rattle.xxhsum_line.proofs.entry.meaning_of.Goals as goal

pub returns-in_default-clause-meaning : goal.returns-in_default-clause-meaning
returns-in_default-clause-meaning c =
    let text : c.up_to_nul-text.result.now ≡ up_to_nul (without_return c.args.line.now) = c.up_to_nul-text.ensures ∙ ap up_to_nul c.without_return.ensures in
    let body : c.body_of.result.now ≡ body_of (up_to_nul (without_return c.args.line.now)) = c.body_of.ensures ∙ ap body_of text in
    nothing_shown c.args.is_little c.args.line.now (sym c.is_comment.ensures ∙ c.if-is_comment.false)
    (subst (TextSaysNothing c.args.is_little) body c.in_default.ensures.shown)

pub returns-in_default-2-clause-meaning : goal.returns-in_default-2-clause-meaning
returns-in_default-2-clause-meaning c =
    let shown = c.in-Some.shown in
    let name = shown.name.now in
    let text : c.up_to_nul-text.result.now ≡ up_to_nul (without_return c.args.line.now) = c.up_to_nul-text.ensures ∙ ap up_to_nul c.without_return.ensures in
    let body : c.body_of.result.now ≡ body_of (up_to_nul (without_return c.args.line.now)) = c.body_of.ensures ∙ ap body_of text in
    let marked : c.is_escaped.result ≡ is_escaped (up_to_nul (without_return c.args.line.now)) = c.is_escaped.ensures ∙ ap is_escaped text in
    let none : name_meant c.is_escaped.result name ≡ None =
    MatchOption-at_none _ (λ v. name_meant c.is_escaped.result name ≡ Some v.items) c.in_default-2.is c.in_ok-name.ensures in
    nothing_meant c.args.is_little c.args.line.now shown.kind shown.value name (sym c.is_comment.ensures ∙ c.if-is_comment.false)
    (subst (λ t. TextSays c.args.is_little t shown.kind shown.value name) body c.in-Some.ensures.shown)
    (ap (λ b. name_meant b name) (sym marked) ∙ none)
