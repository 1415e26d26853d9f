-- Lemmas on names without `./` at their beginning.
use Rattle.xxhsum_audit.proofs.Prelude.{◌≡◌, ℕ, ◌+◌, true, false, List, [], ◌∷◌, drop, length, refl, sym, ap, ◌∙◌, arith, cond-true, cond-false, normalize_path, is_dotted}

pub normalized_past : (name behind : List ℕ) → is_dotted name ≡ true → behind ≡ drop 2 name → length behind + 2 ≡ length name → normalize_path name ≡ normalize_path behind
unfolding normalize_path
normalized_past [] behind dotted is long = absurd (omega (arith, long))
normalized_past (c ∷ []) behind dotted is long = absurd (omega (arith, long))
normalized_past (c ∷ d ∷ name) behind dotted is long =
    cond-true (is_dotted (c ∷ d ∷ name)) (normalize_path name) (c ∷ d ∷ name) dotted ∙ ap normalize_path (sym is)

pub normalized_end : (name : List ℕ) → is_dotted name ≡ false → normalize_path name ≡ name
unfolding normalize_path
normalized_end [] plain = refl
normalized_end (c ∷ []) plain = refl
normalized_end (c ∷ d ∷ name) plain = cond-false (is_dotted (c ∷ d ∷ name)) (normalize_path name) (c ∷ d ∷ name) plain
