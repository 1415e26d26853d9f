-- Lemmas on patterns with `*`: the first suffix of a name that leads to the next `*` is the one to go on from.
use Rattle.std.proofs.Common.{◌≡◌, ℕ, zero, suc, Bool, true, false, not, ◌&&◌, ◌||◌, ◌==◌, List, [], ◌∷◌, drop, refl, sym, ◌∙◌, inl, inr}
use Rattle.std.proofs.lemmas.Bool.{and_parts, or_cases, or_left, or_right}
use Rattle.xxhsum_options.specs.Exclude.{IsLeftmost, ahead_value, any_suffix, first_and, matches, matches_from}
use Rattle.xxhsum_options.specs.declared.exclude.Ahead.{Ahead}
use Rattle.xxhsum_options.specs.declared.exclude.Ahead.TheVariants.{Fails, Matches, Star}

same-bool : (a b : Bool) → (a ≡ true → b ≡ true) → (b ≡ true → a ≡ true) → a ≡ b
same-bool true b there back = sym (there refl)
same-bool false true there back = back refl
same-bool false false there back = refl

any-here : (test : List ℕ → Bool) (name : List ℕ) → test name ≡ true → any_suffix test name ≡ true
any-here test [] h = h
any-here test (byte ∷ name) h = or_left (test (byte ∷ name)) (any_suffix test name) h

any-drop : (test : List ℕ → Bool) (name : List ℕ) (k : ℕ) → any_suffix test (drop k name) ≡ true → any_suffix test name ≡ true
any-drop test name zero h = h
any-drop test [] (suc k) h = h
any-drop test (byte ∷ name) (suc k) h = or_right (test (byte ∷ name)) (any_suffix test name) (any-drop test name k h)

any-place : (test : List ℕ → Bool) (name : List ℕ) → any_suffix test name ≡ true → (k : ℕ) × (test (drop k name) ≡ true)
any-place test [] h = (0, h)
any-place test (byte ∷ name) h =
    elim (or_cases (test (byte ∷ name)) (any_suffix test name) h) [
      | inl here ↦ (0, here)
      | inr later ↦ let there = any-place test name later in (suc there.0, there.1)
    ]

-- Lemma: a byte of a pattern that is no `*` and quotes no other matches one byte.
pub passed : (is_quoted : Bool) (first : ℕ) (others : List ℕ) → (not is_quoted && first == 42) ≡ false → (not is_quoted && first == 92) ≡ false → (name : List ℕ)
    → matches_from is_quoted (first ∷ others) name ≡ first_and (λ byte. byte == first || (not is_quoted && first == 63)) (matches_from false others) name
passed is_quoted first others star quote name = rw (star, quote) refl

-- Lemma: after a byte that was matched, a suffix is as far from the rest of the name as it was from the name.
pub first-later : (one : ℕ → Bool) (others : List ℕ → Bool) (byte : ℕ) (name : List ℕ) (k : ℕ) → first_and one others (drop k (byte ∷ name)) ≡ true → others (drop k name) ≡ true
first-later one others byte name zero h = (and_parts (one byte) (others name) h).1
first-later one others byte [] (suc zero) h = let no : false ≡ true = h in cc
first-later one others byte [] (suc (suc k)) h = let no : false ≡ true = h in cc
first-later one others byte (next ∷ name) (suc k) h = first-later one others next name k h

-- Lemma: a `*` that was reached from the name is the one to go on from, for all suffixes of the name.
pub settled : (pattern name : List ℕ) (met : Ahead) → (met ≡ Fails → ⊥) → ahead_value met ≡ matches pattern name → IsLeftmost pattern name met
    → ahead_value met ≡ any_suffix (matches pattern) name
settled pattern name Fails meets value leftmost = absurd (meets refl)
settled pattern name Matches meets value leftmost = sym (any-here (matches pattern) name (sym value))
settled pattern name (Star others left) meets value leftmost =
    same-bool _ _ (λ h. any-here (matches pattern) name (sym value ∙ h))
    (λ h. let there = any-place (matches pattern) name h in any-drop (matches others.now) left.now there.0 (leftmost there.0 there.1))
