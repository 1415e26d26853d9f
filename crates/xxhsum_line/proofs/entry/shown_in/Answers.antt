use Rattle.xxhsum_line.proofs.Prelude.{rules, ap, sym, ◌∙◌, value_meant, is_little_tag}
use Rattle.xxhsum_line.proofs.EntryFacts.{nothing_without_parts, nothing_of_count, nothing_of_plain, nothing_of_tagged}
use Rattle.xxhsum_line.proofs.entry.shown_in.Goals as goal

pub returns-in_err-digits-clause-shown : goal.returns-in_err-digits-clause-shown
returns-in_err-digits-clause-shown c =
    rw c.from_residual.ensures (nothing_without_parts c.args.is_little c.args.text.now c.in_err-digits.ensures)

pub returns-in_err-kind-in-Plain-clause-shown : goal.returns-in_err-kind-in-Plain-clause-shown
returns-in_err-kind-in-Plain-clause-shown c =
    rw c.from_residual-in_err-kind-in-Plain.ensures
    (nothing_of_count c.args.is_little c.args.text.now c.in-Plain.digits.now c.in-Plain.name.now (search rules) (search rules))

pub returns-in_err-value-in-Plain-clause-shown : goal.returns-in_err-value-in-Plain-clause-shown
returns-in_err-value-in-Plain-clause-shown c =
    let kind = c.in_ok-kind-in-Plain.kind in
    rw c.from_residual-in_err-value-in-Plain.ensures
    (nothing_of_plain c.args.is_little c.args.text.now c.in-Plain.digits.now c.in-Plain.name.now kind (search rules) (search rules) (search rules))

pub returns-in_err-value-in-Tagged-clause-shown : goal.returns-in_err-value-in-Tagged-clause-shown
returns-in_err-value-in-Tagged-clause-shown c =
    let digits = c.in-Tagged.digits.now in
    let tag = c.in-Tagged.tag.now in
    rw c.from_residual-in_err-value-in-Tagged.ensures
    (nothing_of_tagged c.args.is_little c.args.text.now tag c.in-Tagged.name.now digits (search rules)
    (ap (λ k. value_meant k (is_little_tag tag) digits) (sym c.kind_of_tag-kind.ensures)
    ∙ ap (λ b. value_meant c.kind_of_tag-kind.result b digits) (sym c.is_little_tag.ensures) ∙ sym c.in_err-value-in-Tagged.ensures.value))
