-- Lemmas on names and their outcomes, if one more comes.
use Rattle.xxhsum_program.proofs.Prelude.{[], ◌++◌, ◌∙◌, ◌∷◌, ◌≡◌, EachHas, List, ap, append-nil, append_assoc, lines_of, sym, ℕ}

pub lines-push : {T U : Type 0} (comes : List ℕ → T → Type 0) (line : List ℕ → T → List U) (names : List (List ℕ)) (outcomes : List T) (name : List ℕ) (outcome : T) → EachHas comes names outcomes → lines_of line (names ++ name ∷ []) (outcomes ++ outcome ∷ []) ≡ lines_of line names outcomes ++ line name outcome
lines-push comes line [] [] name outcome each = append-nil (line name outcome)
lines-push comes line [] (o ∷ os) name outcome each = absurd each
lines-push comes line (n ∷ ns) [] name outcome each = absurd each
lines-push {T} {U} comes line (n ∷ ns) (o ∷ os) name outcome each =
    ap (λ (rest : List U). line n o ++ rest) (lines-push comes line ns os name outcome each.1) ∙ sym (append_assoc (line n o) (lines_of line ns os) (line name outcome))
