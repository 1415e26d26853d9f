-- Lemmas on the items of texts and lines, after one more text or line.
use Rattle.xxhsum_app.proofs.Prelude.{[], ◌++◌, ◌∙◌, ◌∷◌, ◌≤◌, Bool, GiveAll, HaveItems, Item, List, SayAll, SaysOne, TakesLine, all-push, ap, append-nil, append_assoc, length, refl, subst, sym, true, ℕ}
use Rattle.xxhsum_program.specs.ListLines.{longest_line}

pub give-more : {X : Type 0} (gives : List ℕ → List X → Type 0) (texts : List (List ℕ)) (text : List ℕ) (all more : List X) → GiveAll gives texts all
    → gives text more → GiveAll gives (texts ++ text ∷ []) (all ++ more)
give-more gives [] text all more none one =
    (more, [], ap (λ x. x ++ more) none ∙ sym (append-nil more), one, refl)
give-more gives (t ∷ texts) text all more given one = (
  given.0,
  given.1 ++ more,
  ap (λ x. x ++ more) given.2 ∙ append_assoc given.0 given.1 more,
  given.3,
  give-more gives texts text given.1 more given.4 one,
)

pub have-entries-more : (is_little : Bool) (lines : List (List ℕ)) (line : List ℕ) (old new : List Item) → HaveItems is_little lines old
    → length line ≤ longest_line → TakesLine is_little line old new true → HaveItems is_little (lines ++ line ∷ []) new
have-entries-more is_little lines line old new entries short (more, is, one) =
    (all-push (λ l. length l ≤ longest_line) lines line entries.0 short, subst (λ items. SayAll is_little (lines ++ line ∷ []) items) (sym is) (give-more (SaysOne is_little) lines line old more entries.1 one))
