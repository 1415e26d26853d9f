use Rattle.std.proofs.Common.{◌≡◌, ℕ, ◌<◌, ◌≤◌, List, [], ◌∷◌, Bor, length, slice_index_or, false, codes, if◌then◌else◌, arith, refl, Err}
use Rattle.std.proofs.lemmas.Bool.{false_from_ne_true}
use Rattle.std.proofs.lemmas.Slice.Eq.{bytes_eq-Decides}
use Rattle.std.specs.Str.{bytes_eq}
use Rattle.xxh_io.specs.Command.{command_of}
use Rattle.xxh_io.specs.declared.fault.Fault.TheVariants.{Usage}
use Rattle.xxh_io.proofs.command.parse.Goals as goal

-- Proves that no other name is a command.

differs : (a b : List ℕ) → (a ≡ b → ⊥) → bytes_eq a b ≡ false
differs a b differ = false_from_ne_true _ (λ is. differ ((bytes_eq-Decides a b).0 is))

-- Lemma: a test for three other names has the last result.
none-of : {T : Type 0} (name a b c : List ℕ) (x y z w : T) → (name ≡ a → ⊥) → (name ≡ b → ⊥) → (name ≡ c → ⊥)
    → w ≡ (if bytes_eq name a then x else if bytes_eq name b then y else if bytes_eq name c then z else w)
none-of name a b c x y z w not-a not-b not-c =
    rw (differs name a not-a, differs name b not-b, differs name c not-c) refl

abbrev first : List (Bor (List ℕ)) → List ℕ
first words = (slice_index_or words 0 record { ref_ptr = (0, 0); now = [] }).now

two : (words : List (Bor (List ℕ))) → length words < 3 → (first words ≡ codes "hash" → ⊥)
    → (first words ≡ codes "save" → ⊥) → (first words ≡ codes "blocks" → ⊥) → Err Usage ≡ command_of words
two [] below not-hash not-save not-blocks = refl
two (x ∷ []) below not-hash not-save not-blocks = refl
two (x ∷ y ∷ []) below not-hash not-save not-blocks = none-of _ _ _ _ _ _ _ _ not-hash not-save not-blocks
two (x ∷ y ∷ z ∷ more) below not-hash not-save not-blocks = absurd (omega (arith, below))

three : (words : List (Bor (List ℕ))) → 3 ≤ length words → (first words ≡ codes "hash" → ⊥)
    → (first words ≡ codes "save" → ⊥) → (first words ≡ codes "resume" → ⊥) → Err Usage ≡ command_of words
three [] least not-hash not-save not-resume = refl
three (x ∷ []) least not-hash not-save not-resume = refl
three (x ∷ y ∷ []) least not-hash not-save not-resume = absurd (omega (arith, least))
three (x ∷ y ∷ z ∷ []) least not-hash not-save not-resume = none-of _ _ _ _ _ _ _ _ not-hash not-save not-resume
three (x ∷ y ∷ z ∷ w ∷ more) least not-hash not-save not-resume = refl

pub returns-in_default-name-clause-command : goal.returns-in_default-name-clause-command
returns-in_default-name-clause-command c =
    let name = c.in_default-name in
    two c.args.words.now c.in-len2.len_below name.not-hash name.not-save name.not-blocks

pub returns-in_default-name-2-clause-command : goal.returns-in_default-name-2-clause-command
returns-in_default-name-2-clause-command c =
    let name = c.in_default-name-2 in
    three c.args.words.now c.in-len3.len_at_least name.not-hash name.not-save name.not-resume
