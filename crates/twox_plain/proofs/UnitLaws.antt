-- Lemmas on values that take units one after another: one-to-one steps determine the start and each unit.
use Rattle.twox_plain.proofs.Prelude.{◌<◌, ◌∙◌, ◌≡◌, ◌≢◌, ◌≤◌, IsOneToOne, ap, arith, eq-or-lt_of_le, inl, inr, subst, suc, sym, zero, ℕ}
use Rattle.twox_plain.specs.Units.{after_units}
use Rattle.twox_plain.proofs.UnitFacts.{after_units_same}

-- True if a step from states and units to states is one-to-one in each of the two.
pub record IsTelling (states units : ℕ) (step : ℕ → ℕ → ℕ) : Type 0 where
  pub closed : (x u : ℕ) → step x u < states
  pub in_state : (u : ℕ) → u < units → IsOneToOne states (λ x. step x u)
  pub in_unit : (x : ℕ) → x < states → IsOneToOne units (step x)

module _ (states units : ℕ) (step : ℕ → ℕ → ℕ) (tells : IsTelling states units step) where
  pub after_units-lt : (f : ℕ → ℕ) (a k : ℕ) → a < states → after_units step f a k < states
  unfolding after_units
  after_units-lt f a zero h = h
  after_units-lt f a (suc k) h = tells.closed (after_units step f a k) (f k)

  -- Lemma: equal values after the same units have the same start.
  pub start_told : (f : ℕ → ℕ) (a b k : ℕ) → ((i : ℕ) → i < k → f i < units) → a < states → b < states
      → after_units step f a k ≡ after_units step f b k → a ≡ b
  unfolding after_units
  start_told f a b zero small p q e = e
  start_told f a b (suc k) small p q e =
      start_told f a b k (λ i low. small i (omega arith)) p q
      (tells.in_state (f k) (small k (omega arith)) _ _ (after_units-lt f a k p) (after_units-lt f b k q) e)

  -- Lemma: equal values from the same start have the same unit i if all other units are the same.
  pub unit_told : (f g : ℕ → ℕ) (i a k : ℕ) → ((j : ℕ) → j < k → j ≢ i → f j ≡ g j) → ((j : ℕ) → j < k → f j < units) → ((j : ℕ) → j < k → g j < units)
      → i < k → a < states → after_units step f a k ≡ after_units step g a k → f i ≡ g i
  unfolding after_units
  unit_told f g i a zero same small small' low p e = absurd (omega arith)
  unit_told f g i a (suc k) same small small' low p e =
      let below : (j : ℕ) → j < k → j ≢ i → f j ≡ g j = λ j h. same j (omega arith) in
      elim (eq-or-lt_of_le (let last : i ≤ k = omega arith in last)) [
        | inl here ↦
            let before : after_units step f a k ≡ after_units step g a k = after_units_same step f g a k (λ j h. same j (omega arith) (λ is. absurd (omega (arith, is)))) in
            subst (λ (j : ℕ). f j ≡ g j) (sym here)
            (tells.in_unit (after_units step f a k) (after_units-lt f a k p) (f k) (g k) (small k (omega arith)) (small' k (omega arith))
            (e ∙ ap (λ (x : ℕ). step x (g k)) (sym before)))
        | inr earlier ↦
            let last : f k ≡ g k = same k (omega arith) (λ is. absurd (omega (arith, is))) in
            unit_told f g i a k below (λ j h. small j (omega arith)) (λ j h. small' j (omega arith)) earlier p
            (tells.in_state (g k) (small' k (omega arith)) _ _ (after_units-lt f a k p) (after_units-lt g a k p)
            (ap (step (after_units step f a k)) (sym last) ∙ e))
      ]
