-- Lemmas on suffixes of a list, such as `&xs[i..]`.
use Rattle.std.proofs.Common.{◌≡◌, ℕ, ◌+◌, ◌<◌, List, ◌∷◌, length, map, drop, get_or, sym, ap, ◌∙◌}
use Rattle.std.proofs.lemmas.List.{drop-map, drop_more, take_all, take_rest}

pub map-drop : {A B : Type 0} (f : A → B) (xs : List A) (k : ℕ) (x : A) → k < length xs → x ≡ get_or xs k x → map f (drop k xs) ≡ f x ∷ map f (drop (k + 1) xs)
map-drop f xs k x within is =
    ap (map f) (drop_more xs k x within) ∙ ap (λ v. f v ∷ map f (drop (k + 1) xs)) (sym is)

-- Lemmas on the mapped elements from an index on.
pub ruleset places = (take_rest, drop-map, map-drop)
