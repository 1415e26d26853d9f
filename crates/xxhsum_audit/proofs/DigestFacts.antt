-- Proves that pairs by name and by digest are correct, and that a merge by digest leaves no partner unmatched.
use Rattle.xxhsum_audit.proofs.Prelude.{◌≡◌, false, List, [], ◌∷◌, refl, sym, subst, inl, inr, Ordering, Less, Equal, Greater, is_lt, ordering_then, compared, missing_in, moved, new_in, Changed, Copied, Found, Missing, Moved, New, Same}
use Rattle.xxhsum_audit.proofs.Prelude.{met, HasSameDigest, IsAmong, Item, path_of, IsKept, Ascends, compare_digests, compare_lines, rank_digests, rank_lines}
use Rattle.xxhsum_audit.proofs.FoundFacts.{Covers, by_founds, met_is, met_pair, moved_pair}
use Rattle.xxhsum_audit.proofs.OrderFacts.{back, digests_exact, digests_tied, digests_total, eq_false, eq_true, less_upto, lines_exact}
use Rattle.xxhsum_audit.proofs.SideFacts.{missing_line, new_name}

-- A result of the merge by name that is correct.
abbrev pub FitsName : Found → Type 0
FitsName (Same l n) = IsKept l n
FitsName (Changed l n) = (path_of l ≡ path_of n) × (HasSameDigest l n → ⊥)
FitsName (Moved l n) = ⊥
FitsName (Copied o n) = ⊥
FitsName (New n) = Unit {0}
FitsName (Missing l) = Unit {0}

-- A result of the merge by digest that is correct.
abbrev pub FitsDigest : Found → Type 0
FitsDigest (Same l n) = ⊥
FitsDigest (Changed l n) = ⊥
FitsDigest (Moved l n) = HasSameDigest l n
FitsDigest (Copied o n) = ⊥
FitsDigest (New n) = Unit {0}
FitsDigest (Missing l) = Unit {0}

-- A property of all results.
abbrev AllFit : (Found → Type 0) → List Item → List Item → List Found → Type 0
AllFit P ls ns f = (one : Found) → IsAmong f one → P one

more : (P : Found → Type 0) (x : Found) (f : List Found) → P x → ((one : Found) → IsAmong f one → P one)
    → (one : Found) → IsAmong (x ∷ f) one → P one
more P x f here behind one (inl e) = subst P e here
more P x f here behind one (inr h) = behind one h

met_fits : (l n : Item) → compare_lines l n ≡ Equal → FitsName (met l n)
met_fits l n e =
    met_is FitsName l n
    (λ same. (lines_exact l n e, digests_exact l n (eq_true (compare_digests l n) same)))
    (λ other. (lines_exact l n e, λ digest. eq_false (compare_digests l n) other (digests_tied l n digest)))

pub all_fit_name : (ls ns : List Item) (one : Found) → IsAmong (compared ls ns) one → FitsName one
all_fit_name ls ns =
    (by_founds met met_pair compare_lines (AllFit FitsName) (λ one h. absurd h)
    (λ l ls f _ ih. more FitsName (Missing l) f tt ih)
    (λ n ns f _ ih. more FitsName (New n) f tt ih)
    (λ l n ls ns f e _ ih. more FitsName (Missing l) f tt ih)
    (λ l n ls ns f e _ ih. more FitsName (met l n) f (met_fits l n e) ih)
    (λ l n ls ns f e _ ih. more FitsName (New n) f tt ih) ls ns).1

pub all_fit_digest : (ls ns : List Item) (one : Found) → IsAmong (moved ls ns) one → FitsDigest one
all_fit_digest ls ns =
    (by_founds Moved moved_pair compare_digests (AllFit FitsDigest) (λ one h. absurd h)
    (λ l ls f _ ih. more FitsDigest (Missing l) f tt ih)
    (λ n ns f _ ih. more FitsDigest (New n) f tt ih)
    (λ l n ls ns f e _ ih. more FitsDigest (Missing l) f tt ih)
    (λ l n ls ns f e _ ih. more FitsDigest (Moved l n) f (digests_exact l n e) ih)
    (λ l n ls ns f e _ ih. more FitsDigest (New n) f tt ih) ls ns).1

-- ---- no partner is left

not_less_first : (o p : Ordering) → is_lt (ordering_then o p) ≡ false → is_lt o ≡ false
not_less_first Less p e = e
not_less_first Equal p e = refl
not_less_first Greater p e = refl

-- Lemma: items that ascend by digest and name ascend by digest.
pub climbs : (xs : List Item) → Ascends rank_digests xs → Ascends compare_digests xs
climbs [] up = tt
climbs (x ∷ xs) up =
    (λ y h. not_less_first (compare_digests y x) (rank_lines y x) (up.0 y h), climbs xs up.1)

abbrev pub AreApart : List Item → List Item → List Found → Type 0
AreApart ls ns f =
    Ascends compare_digests ls → Ascends compare_digests ns → (l n : Item) → IsAmong (missing_in f) l → IsAmong (new_in f) n
    → HasSameDigest l n → ⊥

-- Lemma: a digest less than the first of ascending digests is less than all of them.
below : (a b : Item) (bs : List Item) → compare_digests a b ≡ Less → Ascends compare_digests (b ∷ bs) → (x : Item)
    → IsAmong (b ∷ bs) x → compare_digests a x ≡ Less
below a b bs e up x (inl same) = subst (λ y. compare_digests a y ≡ Less) same e
below a b bs e up x (inr there) = less_upto compare_digests digests_total a b x e (up.0 x there)

not_same : (a b : Item) → compare_digests a b ≡ Less → HasSameDigest a b → ⊥
not_same a b less same = let tied = digests_tied a b same in let no : ⊥ = cc in no

turned : (a b : Item) → HasSameDigest a b → HasSameDigest b a
turned a b same = (sym same.0, sym same.1)

less : (l n : Item) (ls ns : List Item) (f : List Found) → compare_digests l n ≡ Less → Covers ls (n ∷ ns) f → AreApart ls (n ∷ ns) f
    → AreApart (l ∷ ls) (n ∷ ns) (Missing l ∷ f)
less l n ls ns f e all ih = λ up up' x y h k same.
    elim h [
      | inl this ↦ not_same l y (below l n ns e up' y (new_name (n ∷ ns) f all.names y k))
          (subst (λ z. HasSameDigest z y) (sym this) same)
      | inr there ↦ ih up.1 up' x y there k same
    ]

greater : (l n : Item) (ls ns : List Item) (f : List Found) → compare_digests l n ≡ Greater → Covers (l ∷ ls) ns f → AreApart (l ∷ ls) ns f
    → AreApart (l ∷ ls) (n ∷ ns) (New n ∷ f)
greater l n ls ns f e all ih = λ up up' x y h k same.
    elim k [
      | inl this ↦ not_same n x
          (below n l ls (back compare_digests digests_total l n e) up x (missing_line (l ∷ ls) f all.lines x h))
          (turned x n (subst (λ z. HasSameDigest x z) (sym this) same))
      | inr there ↦ ih up up'.1 x y h there same
    ]

pub all_apart : (ls ns : List Item) → AreApart ls ns (moved ls ns)
all_apart ls ns =
    (by_founds Moved moved_pair compare_digests AreApart
    (λ up up' l n h k same. absurd h)
    (λ l ls f all ih up up' x n h k same. absurd (new_name [] f all.names n k))
    (λ n ns f all ih up up' l x h k same. absurd (missing_line [] f all.lines l h))
    less
    (λ l n ls ns f e all ih up up' x y h k same. ih up.1 up'.1 x y h k same)
    greater ls ns).1
