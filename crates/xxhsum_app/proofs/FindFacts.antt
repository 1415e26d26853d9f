-- Lemmas on the result of a search: an item, or the reported reason why there is none.
use Rattle.xxhsum_app.proofs.Prelude.{◌≡◌, Err, Finds, List, None, Ok, Option, Result, Some, subst, ℕ}
use Rattle.xxhsum_app.specs.Prelude.{Eprints, SinkRules, Stop, one_line}

-- Lemma: a search has the properties that its property of items and its property of reasons imply.
pub finds-as : {T E : Type 0} (reporting : SinkRules E) (is_found other : T → Type 0) (is_why other_why : List ℕ → Type 0) (old new : E) → ((x : T) → is_found x → other x) → ((text : List ℕ) → is_why text → other_why text)
    → (result : Result (Option T) Stop) → Finds result reporting is_found is_why old new → Finds result reporting other other_why old new
finds-as reporting is_found other is_why other_why old new more why (Ok (Some x)) finds = (more x finds.0, finds.1)
finds-as reporting is_found other is_why other_why old new more why (Ok None) finds = (finds.0, why finds.0 finds.1, finds.2)
finds-as reporting is_found other is_why other_why old new more why (Err stop) finds = finds

-- Lemma: an item that a search returns has the property, and nothing is reported.
pub found-is : {T E : Type 0} (reporting : SinkRules E) (is_found : T → Type 0) (is_why : List ℕ → Type 0) (old new : E) (found : Option T) (x : T)
    → found ≡ Some x → Finds (Ok found) reporting is_found is_why old new → is_found x × (new ≡ old)
found-is {T} reporting is_found is_why old new found x is finds =
    subst (λ (o : Option T). Finds (Ok o) reporting is_found is_why old new) is finds

-- Lemma: a search that returns no item reports the reason.
pub lost-is : {T E : Type 0} (reporting : SinkRules E) (is_found : T → Type 0) (is_why : List ℕ → Type 0) (old new : E) (found : Option T) → found ≡ None → Finds (Ok found) reporting is_found is_why old new → (text : List ℕ) × is_why text × Eprints reporting (one_line text) old new
lost-is {T} reporting is_found is_why old new found is finds =
    subst (λ (o : Option T). Finds (Ok o) reporting is_found is_why old new) is finds
