-- Proves that a text that is not a prefix of a name is in the name if and only if it is after the first byte.
use Rattle.std.proofs.Common.{◌≡◌, ℕ, ◌+◌, ◌<◌, List, ◌∷◌, length, drop, false, nat_eq, refl, ap, sym, ◌∙◌, add-one}
use Rattle.std.proofs.Math.Seq.{drop-cons}
use Rattle.std.specs.List.{starts_with}
use Rattle.xxhsum_options.specs.Name.{has_part}
use Rattle.std.proofs.lemmas.List.{take_rest}

has_part-cons : (text : List ℕ) (c : ℕ) (cs : List ℕ) → starts_with nat_eq (c ∷ cs) text ≡ false → has_part text (c ∷ cs) ≡ has_part text cs
has_part-cons text c cs fails = rw fails refl

pub has_part-drop : (text name : List ℕ) (i : ℕ) → i < length name → starts_with nat_eq (drop i name) text ≡ false → has_part text (drop i name) ≡ has_part text (drop (i + 1) name)
has_part-drop text name i below fails =
    let parts = drop-cons name i 0 below in
    ap (has_part text) parts ∙ has_part-cons text _ _ (rw parts at fails) ∙ ap (λ k. has_part text (drop k name)) (sym (add-one i))

pub ruleset laws_of_parts = (take_rest, has_part-drop)
