use Rattle.xxhsum_program.proofs.Prelude.{[], ◌==◌, ◌∷◌, ◌≡◌, ◌≢◌, List, Eprints, arith, codes, concat, false, length, letter_text, nat_tests, refl, row_text, subst, ℕ}
use Rattle.xxhsum_program.proofs.usage.eprint_row.Goals as goal

not-none : (n : ℕ) → n ≢ 0 → (n == 0) ≡ false
not-none n some = grind (arith, nat_tests, some)

shown-row : (letter : ℕ) (name help shown : List ℕ) → length help ≢ 0 → shown ≡ letter_text letter
    → concat (codes "  " ∷ shown ∷ codes "--" ∷ name ∷ help ∷ codes "\n" ∷ []) ≡ row_text letter name help
shown-row letter name help shown some is = rw (not-none (length help) some, is) refl

pub returns : goal.returns
returns g c =
    subst (λ text. Eprints g.E.Sink text c.args.err.now c.eprint_parts.new.err)
    (shown-row c.args.letter c.args.name.now c.args.help.now c.shown_letter-shown.result.now c.if-help-eq0.false c.shown_letter-shown.ensures)
    c.eprint_parts.ensures
