-- Lemmas on lists of chunks to which a chunk is appended.
use Rattle.std.proofs.Common.{◌≡◌, ℕ, ◌-◌, ◌<◌, List, [], ◌∷◌, ◌++◌, length, take, drop, refl, ap, ◌∙◌, subst, append-nil, append_assoc, take-append-drop}
use Rattle.std.specs.List.{concat}
use Rattle.std.proofs.lemmas.List.{take_rest}
use Rattle.std.proofs.lemmas.List.Folds.{concat-append}
use Rattle.xxh_io.specs.Pieces.{Pieces, NoneEmpty}

pub Pieces-push : {S : Type 0} (step : S → List ℕ → S → Type 0) (old mid new : S) (pieces : List (List ℕ)) (piece : List ℕ) → Pieces step old pieces mid → step mid piece new → Pieces step old (pieces ++ piece ∷ []) new
Pieces-push step old mid new [] piece led more = (new, subst (λ s. step s piece new) led more, refl)
Pieces-push step old mid new (x ∷ xs) piece led more = (led.0, led.1, Pieces-push step led.0 mid new xs piece led.2 more)

pub NoneEmpty-push : (pieces : List (List ℕ)) (piece : List ℕ) → NoneEmpty pieces → 0 < length piece → NoneEmpty (pieces ++ piece ∷ [])
NoneEmpty-push [] piece none some = (some, tt)
NoneEmpty-push (x ∷ xs) piece none some = (none.0, NoneEmpty-push xs piece none.1 some)

pub concat-push : (pieces : List (List ℕ)) (piece : List ℕ) → concat (pieces ++ piece ∷ []) ≡ concat pieces ++ piece
concat-push pieces piece = concat-append pieces (piece ∷ []) ∙ ap (λ bytes. concat pieces ++ bytes) (append-nil piece)

-- Lemma: the bytes are still the chunks, joined, and the rest, after one more chunk of `count` bytes of the rest.
pub taken-push : (bytes rest : List ℕ) (taken : List (List ℕ)) (count : ℕ) → bytes ≡ concat taken ++ rest → bytes ≡ concat (taken ++ take count rest ∷ []) ++ take (length rest - count) (drop count rest)
taken-push bytes rest taken count before =
    rw (take_rest rest count, concat-push taken (take count rest), append_assoc (concat taken) (take count rest) (drop count rest), take-append-drop count rest) before
