-- Lemmas on values that take the bytes of a list one after another: one-to-one steps determine the start and detect a
-- changed byte.
use Rattle.twox_plain.proofs.Prelude.{◌+◌, ◌-◌, ◌<◌, ◌^◌, ◌∙◌, ◌≡◌, ◌≢◌, ◌≤◌, DiffersWithin, IsBytes, List, ap, arith, cases_lt, inl, inr, slice_index, subst, sym, ℕ}
use Rattle.twox_plain.specs.Units.{after_units}
use Rattle.twox_plain.proofs.UnitFacts.{after_units_same}
use Rattle.twox_plain.proofs.UnitLaws.{IsTelling, start_told, unit_told}
use Rattle.twox_plain.proofs.ChangedUnitFacts.{differ}

module _ (states : ℕ) (take_byte : ℕ → ℕ → ℕ) (tells : IsTelling states (2 ^ 8) take_byte) where
  -- The value after the k bytes of m from offset i.
  abbrev pub after_bytes : List ℕ → ℕ → ℕ → ℕ → ℕ
  after_bytes m i x k = after_units take_byte (λ u. slice_index m (i + u)) x k

  -- Lemma: equal values after the same bytes have the same start.
  pub bytes_told : (m n : List ℕ) (i x y k : ℕ) → IsBytes m → x < states → y < states → ((u : ℕ) → u < k → slice_index n (i + u) ≡ slice_index m (i + u))
      → after_bytes m i x k ≡ after_bytes n i y k → x ≡ y
  bytes_told m n i x y k p bx by same e =
      start_told states (2 ^ 8) take_byte tells (λ u. slice_index m (i + u)) x y k (λ u low. p (i + u)) bx by
      (e ∙ after_units_same take_byte _ _ y k same)

  -- Lemma: values from the same start differ if one of their bytes differs.
  pub byte_noticed : (m n : List ℕ) (i x y k from : ℕ) → IsBytes m → IsBytes n → x < states → x ≡ y → i ≤ from → from < i + k → DiffersWithin from 1 m n
      → after_bytes m i x k ≢ after_bytes n i y k
  byte_noticed m n i x y k from p q bx start low high differs e =
      let u = from - i in
      let same : (j : ℕ) → j < k → j ≢ u → slice_index m (i + j) ≡ slice_index n (i + j) = λ j h away.
      sym (differs.outside (i + j) (elim (cases_lt j u) [ inl before ↦ inl (omega arith) | inr after ↦ inr (omega (arith, away)) ])) in
      let told = unit_told states (2 ^ 8) take_byte tells (λ j. slice_index m (i + j)) (λ j. slice_index n (i + j)) u x k same (λ j h. p (i + j)) (λ j h. q (i + j)) (omega arith) bx
      (e ∙ ap (λ (z : ℕ). after_bytes n i z k) (sym start)) in
      differ m n from 1 differs (λ j h. let at : i + u ≡ from + j = omega arith in subst (λ (z : ℕ). slice_index m z ≡ slice_index n z) at told)
