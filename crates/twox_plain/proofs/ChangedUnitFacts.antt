-- Lemmas on lists that differ within one unit.
use Rattle.std.proofs.Common.{◌≡◌, ℕ, ◌+◌, ◌-◌, ◌<◌, ◌≤◌, ◌⊎◌, List, length, take, drop, slice_index, inl, inr, sym, ap, subst, ◌∙◌, arith}
use Rattle.twox_plain.proofs.Prelude.{DiffersWithin, Width, at_part, byte_len, cases_lt, from_le_bytes, length-part, same_number_lists}
use Rattle.twox_words.specs.Word.{word_at}

-- Lemma: lists that differ within a unit differ in a byte of the unit.
pub differ : (m n : List ℕ) (from size : ℕ) → DiffersWithin from size m n → ((k : ℕ) → k < size → slice_index m (from + k) ≡ slice_index n (from + k)) → ⊥
differ m n from size apart same =
    apart.other (same_number_lists n m apart.lengths (λ k h. elim (cases_lt k from) [
      | inl before ↦ apart.outside k (inl before)
      | inr after ↦ elim (cases_lt k (from + size)) [
        | inl within ↦
            let place : from + (k - from) ≡ k = omega arith in
            sym (subst (λ (x : ℕ). slice_index m x ≡ slice_index n x) place (same (k - from) (omega arith)))
        | inr past ↦ apart.outside k (inr past)
      ]
    ]))

-- Lemma: a word outside of the unit is the same in both lists.
pub word_outside : (w : Width) (m n : List ℕ) (from size i : ℕ) → DiffersWithin from size m n → i + byte_len w ≤ length m → (i + byte_len w ≤ from) ⊎ (from + size ≤ i) → word_at w m i ≡ word_at w n i
unfolding word_at
word_outside w m n from size i apart fits away =
    let b = byte_len w in
    let long : i + b ≤ length n = omega (arith, apart.lengths) in
    ap (from_le_bytes w) (same_number_lists (take b (drop i m)) (take b (drop i n)) (length-part b i m fits ∙ sym (length-part b i n long)) (λ k h.
    let low : k < b = omega (arith, length-part b i m fits) in
    let away' : (i + k < from) ⊎ (from + size ≤ i + k) = elim away [ inl before ↦ inl (omega arith) | inr after ↦ inr (omega arith) ] in
    at_part b i k m low ∙ sym (apart.outside (i + k) away') ∙ sym (at_part b i k n low)))
