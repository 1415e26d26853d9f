-- Proves that a line has at most one meaning.
use Rattle.xxhsum_line.proofs.Prelude.{◌≡◌, ◌⊎◌, ℕ, List, inl, inr, sym, ap, subst, ◌∙◌, Bool, false, Some, None, both_ways, none-some, same_Some, Kind, Says, SaysNothing, TextSays, TextSaysNothing, is_comment, value_meant, body_of}
use Rattle.xxhsum_line.proofs.Prelude.{is_escaped, name_meant, Means, HasNoParts, IsPlain, IsTagged, up_to_nul, without_return, kind_of_digits, kind_of_tag, is_little_tag}
use Rattle.xxhsum_line.specs.declared.entry.Meaning.{Meaning}
use Rattle.xxhsum_line.specs.declared.entry.Meaning.TheVariants.{Comment, Malformed}
use Rattle.xxhsum_line.proofs.PartFacts.{not_both, plain_same, tagged_same}

-- Lemma: a text without parts has no entry.
pub nothing_without_parts : (is_little : Bool) (text : List ℕ) → HasNoParts text
    → TextSaysNothing is_little text
nothing_without_parts is_little text none kind value name (inl p) = none.0 p.0 name p.1
nothing_without_parts is_little text none kind value name (inr p) = none.1 p.0 name p.1 p.2

-- Lemma: a plain text has no entry if its digits determine no algorithm.
pub nothing_of_count : (is_little : Bool) (text digits name : List ℕ) → IsPlain text digits name → kind_of_digits digits ≡ None
    → TextSaysNothing is_little text
nothing_of_count is_little text digits name here none kind value name' (inl p) =
    let same = plain_same text digits name p.0 name' here p.1 in
    none-some kind (sym none ∙ ap kind_of_digits same.0 ∙ p.2)
nothing_of_count is_little text digits name here none kind value name' (inr p) =
    not_both text digits name p.0 name' p.1 here p.2

-- Lemma: a plain text has no entry if its digits have no value.
pub nothing_of_plain : (is_little : Bool) (text digits name : List ℕ) (kind : Kind) → IsPlain text digits name
    → kind_of_digits digits ≡ Some kind → value_meant kind is_little digits ≡ None
    → TextSaysNothing is_little text
nothing_of_plain is_little text digits name kind here is_kind none kind' value name' (inl p) =
    let same = plain_same text digits name p.0 name' here p.1 in
    let kinds : kind ≡ kind' = same_Some kind kind' (sym is_kind ∙ ap kind_of_digits same.0 ∙ p.2) in
    none-some value (sym none ∙ ap (λ k. value_meant k is_little digits) kinds ∙ ap (value_meant kind' is_little) same.0 ∙ p.3)
nothing_of_plain is_little text digits name kind here is_kind none kind' value name' (inr p) =
    not_both text digits name p.0 name' p.1 here p.2

-- Lemma: a tagged text has no entry if its digits have no value.
pub nothing_of_tagged : (is_little : Bool) (text tag name digits : List ℕ) → IsTagged text tag name digits
    → value_meant (kind_of_tag tag) (is_little_tag tag) digits ≡ None
    → TextSaysNothing is_little text
nothing_of_tagged is_little text tag name digits here none kind value name' (inl p) =
    not_both text p.0 name' tag name digits p.1 here
nothing_of_tagged is_little text tag name digits here none kind value name' (inr p) =
    let same = tagged_same text tag name digits p.0 name' p.1 here p.2 in
    let kinds : kind_of_tag tag ≡ kind = ap kind_of_tag same.0 ∙ p.3 in
    none-some value (sym none ∙ ap (λ k. value_meant k (is_little_tag tag) digits) kinds
    ∙ ap (λ t. value_meant kind (is_little_tag t) digits) same.0 ∙ ap (value_meant kind (is_little_tag p.0)) same.2 ∙ p.4)

-- Lemma: two entries of one text are equal.
pub text_says_same : (is_little : Bool) (text : List ℕ) (kind : Kind) (value : ℕ) (name : List ℕ) (kind' : Kind) (value' : ℕ) (name' : List ℕ)
    → TextSays is_little text kind value name → TextSays is_little text kind' value' name'
    → (kind ≡ kind') × (value ≡ value') × (name ≡ name')
text_says_same is_little text kind value name kind' value' name' (inl p) (inl q) =
    let same = plain_same text p.0 name q.0 name' p.1 q.1 in
    let kinds : kind ≡ kind' = same_Some kind kind' (sym p.2 ∙ ap kind_of_digits same.0 ∙ q.2) in (
      kinds,
      same_Some value value' (sym p.3 ∙ ap (λ k. value_meant k is_little p.0) kinds ∙ ap (value_meant kind' is_little) same.0 ∙ q.3),
      same.1,
    )
text_says_same is_little text kind value name kind' value' name' (inl p) (inr q) = absurd (not_both text p.0 name q.0 name' q.1 p.1 q.2)
text_says_same is_little text kind value name kind' value' name' (inr p) (inl q) = absurd (not_both text q.0 name' p.0 name p.1 q.1 p.2)
text_says_same is_little text kind value name kind' value' name' (inr p) (inr q) =
    let same = tagged_same text p.0 name p.1 q.0 name' q.1 p.2 q.2 in
    let kinds : kind ≡ kind' = sym p.3 ∙ ap kind_of_tag same.0 ∙ q.3 in (
      kinds,
      same_Some value value' (sym p.4 ∙ ap (λ k. value_meant k (is_little_tag p.0) p.1) kinds
          ∙ ap (λ t. value_meant kind' (is_little_tag t) p.1) same.0 ∙ ap (value_meant kind' (is_little_tag q.0)) same.2 ∙ q.4),
      same.1,
    )

-- Lemma: two entries of one line are equal.
pub says_same : (is_little : Bool) (line : List ℕ) (kind : Kind) (value : ℕ) (name : List ℕ) (kind' : Kind) (value' : ℕ) (name' : List ℕ)
    → Says is_little line kind value name → Says is_little line kind' value' name'
    → (kind ≡ kind') × (value ≡ value') × (name ≡ name')
says_same is_little line kind value name kind' value' name' p q =
    let text = up_to_nul (without_return line) in
    let same = text_says_same is_little (body_of text) kind value p.1 kind' value' q.1 p.2 q.2 in
    (same.0, same.1, same_Some name name' (sym p.3 ∙ ap (name_meant (is_escaped text)) same.2 ∙ q.3))

-- ---- malformed lines

pub nothing_shown : (is_little : Bool) (line : List ℕ) → is_comment line ≡ false → TextSaysNothing is_little (body_of (up_to_nul (without_return line)))
    → SaysNothing is_little line
nothing_shown is_little line no_comment none = (no_comment, λ kind value name p. none kind value p.1 p.2)

pub nothing_meant : (is_little : Bool) (line : List ℕ) (kind : Kind) (value : ℕ) (shown : List ℕ) → is_comment line ≡ false
    → TextSays is_little (body_of (up_to_nul (without_return line))) kind value shown → name_meant (is_escaped (up_to_nul (without_return line))) shown ≡ None
    → SaysNothing is_little line
nothing_meant is_little line kind value shown no_comment says none = (
  no_comment,
  λ kind' value' name p.
      let text = up_to_nul (without_return line) in
      let same = text_says_same is_little (body_of text) kind value shown kind' value' p.1 says p.2 in
      none-some name (sym none ∙ ap (name_meant (is_escaped text)) same.2 ∙ p.3),
)

-- ---- lines with an entry, which are neither comments nor malformed

pub not_other : (is_little : Bool) (line : List ℕ) (kind : Kind) (value : ℕ) (name : List ℕ) (meaning : Meaning)
    → (meaning ≡ Comment) ⊎ (meaning ≡ Malformed) → Means is_little line meaning → Says is_little line kind value name → ⊥
not_other is_little line kind value name meaning (inl e) means says =
    both_ways (is_comment line) says.0 (subst (Means is_little line) e means)
not_other is_little line kind value name meaning (inr e) means says =
    (subst (Means is_little line) e means).1 kind value name says
