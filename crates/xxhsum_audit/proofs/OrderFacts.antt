-- Proves that the orders are total and that they distinguish the items that they compare.
use Rattle.xxhsum_audit.proofs.Prelude.{◌≡◌, ℕ, true, false, List, nat_eq, refl, sym, ap, subst, ◌∙◌, if◌then◌else◌, Ordering, Less, Equal, Greater, nat_cmp_total, nat_list_cmp_total, on_total, then_total, tied_itself, alike_right}
use Rattle.xxhsum_audit.proofs.Prelude.{exact_bytes, exact_unsigned, IsTotalOrder, slice_cmp, is_eq, is_lt, nat_cmp, ordering_reverse, ordering_then, HasSameDigest, Item, Says, normalize_path, kind_of, name_of, path_of, value_of, compare_digests}
use Rattle.xxhsum_audit.proofs.Prelude.{Changed, Copied, Found, Missing, Moved, New, Same, class_of, compare_lines, compare_paths, rank_digests, rank_founds, rank_lines, rank_names, rank_of, rank_of_class, source_in, told}
use Rattle.xxh_io.specs.declared.kind.Kind.{Kind}
use Rattle.xxh_io.specs.declared.kind.Kind.TheVariants.{X32, X64, X3_64, X3_128}

pub paths_total : IsTotalOrder compare_paths
paths_total = on_total normalize_path nat_list_cmp_total

pub names_total : IsTotalOrder rank_names
names_total = then_total paths_total nat_list_cmp_total

pub lines_total : IsTotalOrder compare_lines
lines_total = on_total name_of paths_total

pub ranks_total : IsTotalOrder rank_lines
ranks_total = on_total name_of names_total

pub digests_total : IsTotalOrder compare_digests
digests_total = then_total (on_total (λ (item : Item). rank_of (kind_of item)) nat_cmp_total) (on_total value_of nat_cmp_total)

pub all_total : IsTotalOrder rank_digests
all_total = then_total digests_total ranks_total

-- ---- ties

pub then_equal : (o p : Ordering) → ordering_then o p ≡ Equal → (o ≡ Equal) × (p ≡ Equal)
then_equal Less p e = let no : ⊥ = cc in absurd no
then_equal Equal p e = (refl, e)
then_equal Greater p e = let no : ⊥ = cc in absurd no

kind_at : ℕ → Kind
kind_at n = if nat_eq n 0 then X32 else if nat_eq n 1 then X64 else if nat_eq n 2 then X3_64 else X3_128

at_rank : (kind : Kind) → kind_at (rank_of kind) ≡ kind
unfolding kind_at
at_rank X32 = refl
at_rank X64 = refl
at_rank X3_64 = refl
at_rank X3_128 = refl

rank_exact : (a b : Kind) → rank_of a ≡ rank_of b → a ≡ b
rank_exact a b e = sym (at_rank a) ∙ ap kind_at e ∙ at_rank b

pub paths_exact : (a b : List ℕ) → compare_paths a b ≡ Equal → normalize_path a ≡ normalize_path b
paths_exact a b e = exact_bytes (normalize_path a) (normalize_path b) e

pub lines_exact : (a b : Item) → compare_lines a b ≡ Equal → path_of a ≡ path_of b
lines_exact a b e = paths_exact (name_of a) (name_of b) e

pub digests_exact : (a b : Item) → compare_digests a b ≡ Equal → HasSameDigest a b
digests_exact a b e =
    let both = then_equal (nat_cmp (rank_of (kind_of a)) (rank_of (kind_of b))) (nat_cmp (value_of a) (value_of b)) e in
    (rank_exact (kind_of a) (kind_of b) (exact_unsigned _ _ both.0), exact_unsigned _ _ both.1)

items_same : (a b : Item) → name_of a ≡ name_of b → HasSameDigest a b → a ≡ b
items_same (Says n k v) (Says n' k' v') e d =
    let names : n ≡ n' = e in
    let kinds : k ≡ k' = d.0 in
    let values : v ≡ v' = d.1 in
    cc

pub all_exact : (a b : Item) → rank_digests a b ≡ Equal → a ≡ b
all_exact a b e =
    let both = then_equal (compare_digests a b) (rank_lines a b) e in
    let names = then_equal (compare_lines a b) (slice_cmp nat_cmp (name_of a) (name_of b)) both.1 in
    items_same a b (exact_bytes (name_of a) (name_of b) names.1) (digests_exact a b both.0)

pub paths_tied : (a b : List ℕ) → normalize_path a ≡ normalize_path b → compare_paths a b ≡ Equal
paths_tied a b e = subst (λ x. slice_cmp nat_cmp (normalize_path a) x ≡ Equal) e (tied_itself nat_list_cmp_total (normalize_path a))

pub digests_tied : (a b : Item) → HasSameDigest a b → compare_digests a b ≡ Equal
digests_tied (Says n k v) (Says n' k' v') d =
    subst (λ x. ordering_then (nat_cmp (rank_of k) (rank_of x)) (nat_cmp v v') ≡ Equal) d.0
    (subst (λ x. ordering_then (nat_cmp (rank_of k) (rank_of k)) (nat_cmp v x) ≡ Equal) d.1
    (tied_itself digests_total (Says n k v)))

-- ---- results

pub founds_total : IsTotalOrder rank_founds
founds_total =
    then_total (on_total told ranks_total)
    (then_total (on_total (λ (found : Found). rank_of_class (class_of found)) nat_cmp_total)
    (then_total (on_total told all_total) (on_total source_in all_total)))

-- The result with this position of its class and these items.
found_at : ℕ → Item → Item → Found
found_at n told source =
    if nat_eq n 0 then Same source told
    else if nat_eq n 1 then Changed source told
    else if nat_eq n 2 then Moved source told
    else if nat_eq n 3 then Copied source told
    else if nat_eq n 4 then New told
    else Missing told

at_class : (found : Found) → found_at (rank_of_class (class_of found)) (told found) (source_in found) ≡ found
unfolding found_at
at_class (Same l n) = refl
at_class (Changed l n) = refl
at_class (Moved l n) = refl
at_class (Copied o n) = refl
at_class (New n) = refl
at_class (Missing l) = refl

pub founds_exact : (a b : Found) → rank_founds a b ≡ Equal → a ≡ b
founds_exact a b e =
    let first = then_equal (rank_lines (told a) (told b)) _ e in
    let second = then_equal (nat_cmp (rank_of_class (class_of a)) (rank_of_class (class_of b))) _ first.1 in
    let third = then_equal (rank_digests (told a) (told b)) (rank_digests (source_in a) (source_in b)) second.1 in
    let classes = exact_unsigned (rank_of_class (class_of a)) (rank_of_class (class_of b)) second.0 in
    let names = all_exact (told a) (told b) third.0 in
    let sources = all_exact (source_in a) (source_in b) third.1 in
    sym (at_class a)
    ∙ ap (λ n. found_at n (told a) (source_in a)) classes
    ∙ ap (λ t. found_at (rank_of_class (class_of b)) t (source_in a)) names
    ∙ ap (λ s. found_at (rank_of_class (class_of b)) (told b) s) sources
    ∙ at_class b

-- ---- steps of a total order

step : {K : Type 0} (R : K → K → Ordering) (order : IsTotalOrder R) (x y z : K) → R x y ≡ Less → (o : Ordering) → R z y ≡ o
    → is_lt o ≡ false → R x z ≡ Less
step R order x y z less Less e low = let no : ⊥ = cc in absurd no
step R order x y z less Equal e low = alike_right order z y x e ∙ less
step R order x y z less Greater e low =
    order.trans x y z less (order.antisymm y z ∙ ap ordering_reverse e)

-- Lemma: an element less than another is less than each element that is not less than the other.
pub less_upto : {K : Type 0} (R : K → K → Ordering) (order : IsTotalOrder R) (x y z : K) → R x y ≡ Less → is_lt (R z y) ≡ false
    → R x z ≡ Less
less_upto R order x y z less low = step R order x y z less (R z y) refl low

pub back : {K : Type 0} (R : K → K → Ordering) (order : IsTotalOrder R) (x y : K) → R x y ≡ Greater → R y x ≡ Less
back R order x y e = order.antisymm y x ∙ ap ordering_reverse e

pub ahead : {K : Type 0} (R : K → K → Ordering) (order : IsTotalOrder R) (x y : K) → R x y ≡ Less → R y x ≡ Greater
ahead R order x y e = order.antisymm y x ∙ ap ordering_reverse e

-- ---- the results of a test

pub eq_true : (o : Ordering) → is_eq o ≡ true → o ≡ Equal
eq_true Less e = let no : ⊥ = cc in absurd no
eq_true Equal e = refl
eq_true Greater e = let no : ⊥ = cc in absurd no

pub eq_false : (o : Ordering) → is_eq o ≡ false → o ≡ Equal → ⊥
eq_false o e same = let no : true ≡ false = sym (ap is_eq same) ∙ e in let none : ⊥ = cc in none
