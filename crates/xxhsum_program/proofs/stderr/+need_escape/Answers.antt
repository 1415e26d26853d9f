use Rattle.xxhsum_program.proofs.Prelude.{◌||◌, ◌∙◌, ap, joined, needs_append, needs_escape, sym}
use Rattle.xxhsum_program.proofs.stderr.+need_escape.Goals as goal

pub returns-then-needs_escape : goal.returns-then-needs_escape
returns-then-needs_escape t c =
    let rest = joined c.in-Some.rest.now in
    c.if-needs_escape.true ∙ ap (λ b. b || needs_escape rest) (sym c.if-needs_escape.true ∙ c.needs_escape.ensures)
    ∙ sym (needs_append c.in-Some.part.now.now rest) ∙ ap (λ parts. needs_escape (joined parts)) (sym c.in-Some.ensures.cases.0)

pub returns-else-needs_escape : goal.returns-else-needs_escape
returns-else-needs_escape t c =
    let rest = joined c.in-Some.rest.now in
    c.need_escape.ensures ∙ ap (λ b. b || needs_escape rest) (sym c.if-needs_escape.false ∙ c.needs_escape.ensures)
    ∙ sym (needs_append c.in-Some.part.now.now rest) ∙ ap (λ parts. needs_escape (joined parts)) (sym c.in-Some.ensures.cases.0)
