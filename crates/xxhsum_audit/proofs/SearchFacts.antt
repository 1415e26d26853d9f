-- Proves that a binary search finds the first file with a digest.
use Rattle.xxhsum_audit.proofs.Prelude.{◌≡◌, ℕ, suc, zero, ◌+◌, ◌<◌, ◌≤◌, Bool, true, false, List, [], ◌∷◌, Some, None, drop, get_or, length, refl, sym, ap, subst, ◌∙◌, inl, inr, arith, ◌==◌, Ordering, Less, Equal, Greater, alike_right}
use Rattle.xxhsum_audit.proofs.Prelude.{drop_all, drop_more, is_lt, ordering_index, original, IsAmong, Item, item_of, items_of, Ascends, compare_digests}
use Rattle.std.specs.List.Sorted.{IsPartitionedBy}
use Rattle.xxhsum_audit.specs.declared.digest.FileDigest.{FileDigest}
use Rattle.xxhsum_audit.proofs.CopyFacts.{original-above, original-here, original-passed}
use Rattle.xxhsum_audit.proofs.OrderFacts.{back, digests_total}

-- The predicate of the search.
abbrev pub is_below : Item → FileDigest → Bool
is_below n one = ordering_index (compare_digests (item_of one) n) == 0

less_is : (o : Ordering) → (ordering_index o == 0) ≡ true → o ≡ Less
less_is Less e = refl
less_is Equal e = let no : ⊥ = cc in absurd no
less_is Greater e = let no : ⊥ = cc in absurd no

is_less : (o : Ordering) → o ≡ Less → (ordering_index o == 0) ≡ true
is_less o e = ap (λ x. ordering_index x == 0) e

-- Lemma: an item is less if it is not greater than an item that is less.
stays_less : (x y n : Item) → is_lt (compare_digests y x) ≡ false → compare_digests y n ≡ Less → (o : Ordering) → compare_digests x n ≡ o
    → compare_digests x n ≡ Less
stays_less x y n low less Less e = e
stays_less x y n low less Equal e =
    let under : compare_digests y x ≡ Less = alike_right digests_total x n y e ∙ less in
    let yes : true ≡ false = sym (ap is_lt under) ∙ low in
    let no : ⊥ = cc in absurd no
stays_less x y n low less Greater e =
    let under : compare_digests y x ≡ Less = digests_total.trans y n x less (back compare_digests digests_total x n e) in
    let yes : true ≡ false = sym (ap is_lt under) ∙ low in
    let no : ⊥ = cc in absurd no

among-at : (ks : List FileDigest) (k : ℕ) (d : FileDigest) → k < length ks → IsAmong (items_of ks) (item_of (get_or ks k d))
among-at [] k d within = absurd (omega (arith, within))
among-at (x ∷ ks) zero d within = inl refl
among-at (x ∷ ks) (suc k) d within = inr (among-at ks k d (omega (arith, within)))

pub parted : (n : Item) (ks : List FileDigest) → Ascends compare_digests (items_of ks) → IsPartitionedBy (is_below n) ks
parted n [] up i j d low high below = absurd (omega (arith, high))
parted n (x ∷ ks) up zero zero d low high below = below
parted n (x ∷ ks) up (suc i) zero d low high below = absurd (omega (arith, low))
parted n (x ∷ ks) up zero (suc j) d low high below =
    let y = item_of (get_or ks j d) in
    is_less (compare_digests (item_of x) n)
    (stays_less (item_of x) y n (up.0 y (among-at ks j d (omega (arith, high)))) (less_is (compare_digests y n) below)
    (compare_digests (item_of x) n) refl)
parted n (x ∷ ks) up (suc i) (suc j) d low high below = parted n ks up.1 i j d (omega (arith, low)) (omega (arith, high)) below

-- Lemma: the search for the original skips items whose digest is less.
passes : (n : Item) (ks : List FileDigest) (k : ℕ) → k ≤ length ks → ((i : ℕ) (d : FileDigest) → i < k → is_below n (get_or ks i d) ≡ true)
    → original (items_of ks) n ≡ original (items_of (drop k ks)) n
passes n ks zero within less = refl
passes n [] (suc k) within less = refl
passes n (x ∷ ks) (suc k) within less =
    original-passed (item_of x) (items_of ks) n (less_is (compare_digests (item_of x) n) (less 0 x (omega arith)))
    ∙ passes n ks k (omega (arith, within)) (λ i d lt. less (suc i) d (omega (arith, lt)))

ascends-drop : (ks : List FileDigest) (k : ℕ) → Ascends compare_digests (items_of ks) → Ascends compare_digests (items_of (drop k ks))
ascends-drop ks zero up = up
ascends-drop [] (suc k) up = up
ascends-drop (x ∷ ks) (suc k) up = ascends-drop ks k up.1

-- Lemma: there is no original if all digests are less.
pub search-none : (n : Item) (ks : List FileDigest) (k : ℕ) → k ≤ length ks → length ks ≤ k
    → ((i : ℕ) (d : FileDigest) → i < k → is_below n (get_or ks i d) ≡ true) → original (items_of ks) n ≡ None
search-none n ks k within all less =
    passes n ks k within less ∙ ap (λ l. original (items_of l) n) (drop_all k ks all)

-- Lemma: the first item that is not less is the original if it has the digest.
pub search-here : (n : Item) (ks : List FileDigest) (k : ℕ) (x : FileDigest) → k < length ks → x ≡ get_or ks k x
    → ((i : ℕ) (d : FileDigest) → i < k → is_below n (get_or ks i d) ≡ true) → compare_digests (item_of x) n ≡ Equal
    → original (items_of ks) n ≡ Some (item_of x)
search-here n ks k x within is less equal =
    let behind : drop k ks ≡ x ∷ drop (k + 1) ks = drop_more ks k x within ∙ ap (λ y. y ∷ drop (k + 1) ks) (sym is) in
    passes n ks k (omega (arith, within)) less ∙ ap (λ l. original (items_of l) n) behind
    ∙ original-here (item_of x) (items_of (drop (k + 1) ks)) n equal

above : (o : Ordering) → (ordering_index o == 0) ≡ false → (ordering_index o == 1) ≡ false → o ≡ Greater
above Less low other = let no : ⊥ = cc in absurd no
above Equal low other = let no : ⊥ = cc in absurd no
above Greater low other = refl

-- Lemma: there is no original if the first item that is not less has another digest.
pub search-above : (n : Item) (ks : List FileDigest) (k : ℕ) (x : FileDigest) → Ascends compare_digests (items_of ks) → k < length ks
    → x ≡ get_or ks k x → ((i : ℕ) (d : FileDigest) → i < k → is_below n (get_or ks i d) ≡ true) → is_below n x ≡ false
    → (ordering_index (compare_digests (item_of x) n) == 1) ≡ false → original (items_of ks) n ≡ None
search-above n ks k x up within is less low other =
    let behind : drop k ks ≡ x ∷ drop (k + 1) ks = drop_more ks k x within ∙ ap (λ y. y ∷ drop (k + 1) ks) (sym is) in
    let ascends = subst (λ l. Ascends compare_digests (items_of l)) behind (ascends-drop ks k up) in
    passes n ks k (omega (arith, within)) less ∙ ap (λ l. original (items_of l) n) behind
    ∙ original-above (item_of x) (items_of (drop (k + 1) ks)) n ascends (above (compare_digests (item_of x) n) low other)

pub equal_is : (o : Ordering) → (ordering_index o == 1) ≡ true → o ≡ Equal
equal_is Less e = let no : ⊥ = cc in absurd no
equal_is Equal e = refl
equal_is Greater e = let no : ⊥ = cc in absurd no
