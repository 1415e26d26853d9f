-- Lemmas on the output for the lines of a list after one more line.
use Rattle.xxhsum_program.proofs.Prelude.{[], ◌++◌, ◌+◌, ◌∙◌, ◌∷◌, ◌≡◌, Finding, List, ap, append-nil, append_assoc, arith, length, numbered, sym, ℕ}

pub numbered-push : {T : Type 0} (text : ℕ → Finding → List T) (first : ℕ) (findings : List Finding) (finding : Finding) (number : ℕ)
    → number ≡ first + length findings → numbered text first (findings ++ finding ∷ []) ≡ numbered text first findings ++ text number finding
numbered-push text first [] finding number is =
    let same : first ≡ number = omega (arith, is) in
    append-nil (text first finding) ∙ ap (λ n. text n finding) same
numbered-push {T} text first (f ∷ fs) finding number is =
    let more : number ≡ first + 1 + length fs = omega (arith, is) in
    ap (λ (rest : List T). text first f ++ rest) (numbered-push text (first + 1) fs finding number more) ∙ sym (append_assoc (text first f) (numbered text (first + 1) fs) (text number finding))
