-- Proves that the counts of the classes add up.
use Rattle.xxhsum_audit.proofs.Prelude.{◌≡◌, ℕ, ◌+◌, List, [], ◌∷◌, length, length-append, refl, cond, arith, count_by, flat_map, sum_by-cons, Changed, Copied, Found, Missing, Moved, New, Same, is_of_class, line_in, name_in, CountsAddUp}
use Rattle.xxhsum_audit.specs.declared.verdict.Class.{Class}
use Rattle.xxhsum_audit.specs.declared.verdict.Class.TheVariants as Of

-- 1 for a result of the class, 0 for any other.
one_of : Class → Found → ℕ
one_of class x = cond (is_of_class class x) 1 0

-- Lemma: one more result adds 1 to the count of its class.
more : (class : Class) (x : Found) (f : List Found) → count_by (is_of_class class) (x ∷ f) ≡ one_of class x + count_by (is_of_class class) f
unfolding one_of
more class x f = sum_by-cons (λ y. cond (is_of_class class y) 1 0) x f

-- Lemma: a result has a line if and only if it is the same, changed, moved or missing.
counts_line : (x : Found) → length (line_in x) ≡ one_of Of.Same x + one_of Of.Changed x + one_of Of.Moved x + one_of Of.Missing x
unfolding one_of
counts_line (Same l n) = refl
counts_line (Changed l n) = refl
counts_line (Moved l n) = refl
counts_line (Copied o n) = refl
counts_line (New n) = refl
counts_line (Missing l) = refl

counts_name : (x : Found)
    → length (name_in x) ≡ one_of Of.Same x + one_of Of.Changed x + one_of Of.Moved x + one_of Of.Copied x + one_of Of.New x
unfolding one_of
counts_name (Same l n) = refl
counts_name (Changed l n) = refl
counts_name (Moved l n) = refl
counts_name (Copied o n) = refl
counts_name (New n) = refl
counts_name (Missing l) = refl

lines_add_up : (f : List Found)
    → length (flat_map line_in f)
    ≡ count_by (is_of_class Of.Same) f + count_by (is_of_class Of.Changed) f + count_by (is_of_class Of.Moved) f + count_by (is_of_class Of.Missing) f
lines_add_up [] = refl
lines_add_up (x ∷ f) =
    let rest = lines_add_up f in
    let whole = length-append (line_in x) (flat_map line_in f) in
    omega (arith, whole, counts_line x, rest, more Of.Same x f, more Of.Changed x f, more Of.Moved x f, more Of.Missing x f)

names_add_up : (f : List Found)
    → length (flat_map name_in f)
    ≡ count_by (is_of_class Of.Same) f + count_by (is_of_class Of.Changed) f + count_by (is_of_class Of.Moved) f
    + count_by (is_of_class Of.Copied) f + count_by (is_of_class Of.New) f
names_add_up [] = refl
names_add_up (x ∷ f) =
    let rest = names_add_up f in
    let whole = length-append (name_in x) (flat_map name_in f) in
    omega (arith, whole, counts_name x, rest, more Of.Same x f, more Of.Changed x f, more Of.Moved x f, more Of.Copied x f, more Of.New x f)

pub counts_add_up : CountsAddUp
counts_add_up f = (lines_add_up f, names_add_up f)
