-- Proves that sorted lists ascend.
use Rattle.xxhsum_audit.proofs.Prelude.{◌≡◌, ℕ, suc, ◌+◌, ◌<◌, Bool, false, List, [], ◌∷◌, map, length, get_or, subst, inl, inr, arith, IsSortedBy, Ordering, is_lt, ranks_by, sorted_far, IsTotalOrder, IsAmong, Ascends}

-- Lemma: a property at each index of a list is a property of the key of each element.
at_keys : {X Y : Type 0} (key : X → Y) (P : Y → Type 0) (d : X) (xs : List X)
    → ((i : ℕ) → i < length xs → P (key (get_or xs i d))) → (y : Y) → IsAmong (map key xs) y → P y
at_keys key P d [] all y h = absurd h
at_keys key P d (x ∷ xs) all y (inl e) = subst P e (all 0 (omega arith))
at_keys key P d (x ∷ xs) all y (inr h) = at_keys key P d xs (λ i lt. all (suc i) (omega arith)) y h

tail_sorted : {X : Type 0} (lt : X → X → Bool) (x : X) (xs : List X) → IsSortedBy lt (x ∷ xs) → IsSortedBy lt xs
tail_sorted lt x xs up k d low high =
    let next : suc k + 1 ≡ suc (k + 1) = omega arith in
    subst (λ n. lt (get_or (x ∷ xs) n d) (get_or xs k d) ≡ false) next (up (suc k) d (omega arith) (omega arith))

pub ascends_of : {X Y : Type 0} (key : X → Y) (R : Y → Y → Ordering) (total : IsTotalOrder R) (xs : List X)
    → IsSortedBy (λ a b. is_lt (R (key a) (key b))) xs → Ascends R (map key xs)
ascends_of key R total [] up = tt
ascends_of {X} key R total (x ∷ xs) up =
    let lt : X → X → Bool = λ (a b : X). is_lt (R (key a) (key b)) in
    let behind = at_keys key (λ y. is_lt (R y (key x)) ≡ false) x xs
    (λ i h. sorted_far lt (ranks_by total key) (x ∷ xs) up 0 (suc i) x (omega arith) (omega arith)) in
    (behind, ascends_of key R total xs (tail_sorted lt x xs up))
