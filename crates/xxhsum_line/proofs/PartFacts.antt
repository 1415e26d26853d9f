-- Proves that a line has at most one choice of parts.
use Rattle.xxhsum_line.proofs.Prelude.{◌≡◌, ℕ, List, [], ◌∷◌, ◌++◌, sym, ap, subst, ◌∙◌, append_assoc, MatchOption, Option, Some, None, append_cancel_right, Lacks, IsPlain, IsTagged, EndsTagged, HasParts, HasNoParts, HasNoTaggedParts}
use Rattle.xxhsum_line.proofs.Prelude.{IsTaggedWith, length, take, drop, get_or, take_rest, arith, ◌<◌, ◌-◌}
use Rattle.xxhsum_line.specs.declared.parts.Parts.{Parts}
use Rattle.xxhsum_line.specs.declared.parts.Parts.TheVariants.{Plain, Tagged}
use Rattle.xxhsum_line.proofs.LackFacts.{lacks_not, first_same, last_same}

-- Lemma: a line without a space has no parts.
pub no_parts_without_space : (line : List ℕ) → Lacks 32 line → HasNoParts line
no_parts_without_space line h = (
  (λ digits name p. lacks_not 32 digits (p.0 ∷ name) (subst (Lacks 32) p.1 h)),
  (λ tag name digits p. lacks_not 32 tag (40 ∷ (name ++ 41 ∷ 32 ∷ 61 ∷ 32 ∷ digits)) (subst (Lacks 32) p.0 h)),
)

-- Lemma: a line has no parts if its first space is its last byte.
pub no_parts_at_end : (line first rest : List ℕ) → line ≡ first ++ 32 ∷ rest → Lacks 32 first → length rest ≡ 0 → HasNoParts line
no_parts_at_end line first [] e h empty = (
  (λ digits name p.
      let same = first_same 32 first [] digits (p.0 ∷ name) (sym e ∙ p.1) h p.2 in
      let rest : ◌≡◌ {A = List ℕ} [] (p.0 ∷ name) = same.1 in
      cc),
  (λ tag name digits p.
      let same = first_same 32 first [] tag (40 ∷ (name ++ 41 ∷ 32 ∷ 61 ∷ 32 ∷ digits)) (sym e ∙ p.0) h p.1 in
      let rest : ◌≡◌ {A = List ℕ} [] (40 ∷ (name ++ 41 ∷ 32 ∷ 61 ∷ 32 ∷ digits)) = same.1 in
      cc),
)
no_parts_at_end line first (b ∷ rest) e h empty = absurd (omega arith)

-- Lemma: a line with `(` after its first space has no parts if no tagged parts follow the bracket.
pub no_parts_in_brackets : (line first inside : List ℕ) → line ≡ first ++ 32 ∷ 40 ∷ inside → Lacks 32 first
    → HasNoTaggedParts inside → HasNoParts line
no_parts_in_brackets line first inside e h none = (
  (λ digits name p.
      let same = first_same 32 first (40 ∷ inside) digits (p.0 ∷ name) (sym e ∙ p.1) h p.2 in
      let rest : 40 ∷ inside ≡ p.0 ∷ name = same.1 in
      let mark : p.0 ≡ 40 = cc in
      p.3 mark),
  (λ tag name digits p.
      let same = first_same 32 first (40 ∷ inside) tag (40 ∷ (name ++ 41 ∷ 32 ∷ 61 ∷ 32 ∷ digits)) (sym e ∙ p.0) h p.1 in
      let rest : 40 ∷ inside ≡ 40 ∷ (name ++ 41 ∷ 32 ∷ 61 ∷ 32 ∷ digits) = same.1 in
      let ends : inside ≡ name ++ 41 ∷ 32 ∷ 61 ∷ 32 ∷ digits = cc in
      none name digits (ends, p.2)),
)

-- Lemma: the tagged parts found after the bracket are the parts of the line. If there are none, the line has none.
in_brackets : (line first inside : List ℕ) (found : Option Parts) → line ≡ first ++ 32 ∷ 40 ∷ inside → Lacks 32 first
    → MatchOption found (HasNoTaggedParts inside) (IsTaggedWith first inside) → MatchOption found (HasNoParts line) (HasParts line)
in_brackets line first inside None e h none = no_parts_in_brackets line first inside e h none
in_brackets line first inside (Some (Plain digits name)) e h p = absurd p
in_brackets line first inside (Some (Tagged tag name digits)) e h p = (
  e ∙ ap (λ t. t ++ 32 ∷ 40 ∷ inside) (sym p.0) ∙ ap (λ r. tag.now ++ 32 ∷ 40 ∷ r) p.1.0,
  subst (Lacks 32) (sym p.0) h,
  p.1.1,
)

pub parts_in_brackets : (line first rest : List ℕ) (found : Option Parts) → line ≡ first ++ 32 ∷ rest → Lacks 32 first
    → 0 < length rest → get_or rest 0 0 ≡ 40
    → MatchOption found (HasNoTaggedParts (take (length rest - 1) (drop 1 rest))) (IsTaggedWith first (take (length rest - 1) (drop 1 rest)))
    → MatchOption found (HasNoParts line) (HasParts line)
parts_in_brackets line first [] found e h some opening p = absurd (omega arith)
parts_in_brackets line first (b ∷ rest) found e h some opening p =
    in_brackets line first rest found (e ∙ ap (λ b. first ++ 32 ∷ b ∷ rest) opening) h
    (subst (λ x. MatchOption found (HasNoTaggedParts x) (IsTaggedWith first x)) (take_rest (b ∷ rest) 1) p)

-- Lemma: bytes after the bracket have no tagged parts if they have no space.
pub no_end_without_space : (inside : List ℕ) → Lacks 32 inside → HasNoTaggedParts inside
no_end_without_space inside h name digits p =
    let more : inside ≡ (name ++ 41 ∷ []) ++ 32 ∷ 61 ∷ 32 ∷ digits = p.0 ∙ sym (append_assoc name (41 ∷ []) (32 ∷ 61 ∷ 32 ∷ digits)) in
    lacks_not 32 (name ++ 41 ∷ []) (61 ∷ 32 ∷ digits) (subst (Lacks 32) more h)

-- Lemma: the name and `) =` are before the last space of tagged parts, and the digits are after it.
pub end_before_space : (inside before last name digits : List ℕ) → inside ≡ before ++ 32 ∷ last → Lacks 32 last
    → EndsTagged inside name digits → (before ≡ name ++ 41 ∷ 32 ∷ 61 ∷ []) × (last ≡ digits)
end_before_space inside before last name digits e h p =
    let more : inside ≡ (name ++ 41 ∷ 32 ∷ 61 ∷ []) ++ 32 ∷ digits = p.0 ∙ sym (append_assoc name (41 ∷ 32 ∷ 61 ∷ []) (32 ∷ digits)) in
    last_same 32 before last (name ++ 41 ∷ 32 ∷ 61 ∷ []) digits (sym e ∙ more) h p.1

-- Lemma: no line has both forms.
pub not_both : (line digits name tag name' digits' : List ℕ) → IsPlain line digits name → IsTagged line tag name' digits' → ⊥
not_both line digits name tag name' digits' p q =
    let end = name' ++ 41 ∷ 32 ∷ 61 ∷ 32 ∷ digits' in
    let same = first_same 32 digits (p.0 ∷ name) tag (40 ∷ end) (sym p.1 ∙ q.0) p.2 q.1 in
    let rest : p.0 ∷ name ≡ 40 ∷ end = same.1 in
    let mark : p.0 ≡ 40 = cc in
    p.3 mark

pub plain_same : (line digits name digits' name' : List ℕ) → IsPlain line digits name → IsPlain line digits' name'
    → (digits ≡ digits') × (name ≡ name')
plain_same line digits name digits' name' p q =
    let same = first_same 32 digits (p.0 ∷ name) digits' (q.0 ∷ name') (sym p.1 ∙ q.1) p.2 q.2 in
    let rest : p.0 ∷ name ≡ q.0 ∷ name' = same.1 in
    (same.0, cc)

pub tagged_same : (line tag name digits tag' name' digits' : List ℕ) → IsTagged line tag name digits → IsTagged line tag' name' digits'
    → (tag ≡ tag') × (name ≡ name') × (digits ≡ digits')
tagged_same line tag name digits tag' name' digits' p q =
    let end = name ++ 41 ∷ 32 ∷ 61 ∷ 32 ∷ digits in
    let end' = name' ++ 41 ∷ 32 ∷ 61 ∷ 32 ∷ digits' in
    let same = first_same 32 tag (40 ∷ end) tag' (40 ∷ end') (sym p.0 ∙ q.0) p.1 q.1 in
    let rest : 40 ∷ end ≡ 40 ∷ end' = same.1 in
    let ends : end ≡ end' = cc in
    let whole : end ≡ (name ++ 41 ∷ 32 ∷ 61 ∷ []) ++ 32 ∷ digits = sym (append_assoc name (41 ∷ 32 ∷ 61 ∷ []) (32 ∷ digits)) in
    let last = end_before_space end (name ++ 41 ∷ 32 ∷ 61 ∷ []) digits name' digits' whole p.2 (ends, q.2) in
    (same.0, append_cancel_right name name' (41 ∷ 32 ∷ 61 ∷ []) last.0, last.1)
