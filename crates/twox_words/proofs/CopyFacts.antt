-- Lemma on copying a list over another of the same length in two parts, which may overlap.
use Rattle.std.proofs.Common.{◌≡◌, ℕ, ◌+◌, ◌-◌, ◌≤◌, List, [], ◌++◌, length, take, drop, ap, ap₂, ◌∙◌, arith, length-append, length-drop}
use Rattle.std.proofs.lemmas.List.{append-nil, drop_all, length-take-le, take_all, take-append-drop, take-append-le, take-take}
use borrow.Rule.Slice.PartMut.{put_mid, mid_of, post_of}

-- Lemma: copying the first n elements, and then the last n, copies the whole list if last ≤ n.
pub both_ends : {X : Type 0} (n last : ℕ) (to from : List X) → length to ≡ length from → last + n ≡ length from → last ≤ n
    → let half = take n from ++ drop n to in
    put_mid last (length half - last) half (take n (mid_of last (length from - last) from) ++ drop n (mid_of last (length half - last) half)) ≡ from
both_ends {X = X} n last to from same ends covered =
    let half = take n from ++ drop n to in
    let front : length (take n from) ≡ n = length-take-le n from (omega arith) in
    let size : length half ≡ last + n = omega (arith, length-append (take n from) (drop n to), length-drop n to) in
    let left : length (drop last half) ≡ n = omega (arith, length-drop last half) in
    let mine : mid_of last (length half - last) half ≡ drop last half = take_all (length half - last) (drop last half) (omega arith) in
    let given : take n (mid_of last (length from - last) from) ≡ drop last from =
    ap (take n) (take_all (length from - last) (drop last from) (omega (arith, length-drop last from))) ∙ take_all n (drop last from) (omega (arith, length-drop last from)) in
    let none : drop n (mid_of last (length half - last) half) ≡ [] = ap (drop n) mine ∙ drop_all n (drop last half) (omega arith) in
    let laid : take n (mid_of last (length from - last) from) ++ drop n (mid_of last (length half - last) half) ≡ drop last from =
    ap₂ (λ (xs ys : List X). xs ++ ys) given none ∙ append-nil (drop last from) in
    let after : post_of last (length half - last) half ≡ [] = drop_all (length half - last) (drop last half) (omega arith) in
    let begin : take last half ≡ take last from = take-append-le last (take n from) (drop n to) (omega arith) ∙ take-take last n from covered in
    ap (put_mid last (length half - last) half) laid ∙ rw (after, append-nil, begin) (take-append-drop last from)
