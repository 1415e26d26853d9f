-- Lemmas on lists with one result for each name or line, after one more.
use Rattle.std.proofs.Common.{◌≡◌, ℕ, ◌+◌, ◌<◌, ◌&&◌, Bool, true, false, List, [], ◌∷◌, ◌++◌, length, map, take, drop, get_or, refl, sym, ap, ◌∙◌, take-append-drop}
use Rattle.xxhsum_program.proofs.Prelude.{AllByRecursion, EachHas, drop_more, list_all, map-append, take_more}

pub EachHas-push : {T : Type 0} (has : List ℕ → T → Type 0) (lines : List (List ℕ)) (xs : List T) (line : List ℕ) (x : T) → EachHas has lines xs → has line x → EachHas has (lines ++ line ∷ []) (xs ++ x ∷ [])
EachHas-push has [] [] line x each more = (more, tt)
EachHas-push has [] (y ∷ ys) line x each more = absurd each
EachHas-push has (l ∷ ls) [] line x each more = absurd each
EachHas-push has (l ∷ ls) (y ∷ ys) line x each more = (each.0, EachHas-push has ls ys line x each.1 more)

pub all-push : {A : Type 0} (holds : A → Type 0) (xs : List A) (x : A) → AllByRecursion holds xs → holds x → AllByRecursion holds (xs ++ x ∷ [])
all-push holds [] x all is = (is, tt)
all-push holds (y ∷ ys) x all is = (all.0, all-push holds ys x all.1 is)

-- Lemma: one more element of a list appends its image to the mapped list.
pub map-more : {A B : Type 0} (f : A → B) (xs : List A) (k : ℕ) (x : A) → k < length xs → x ≡ get_or xs k x → map f (take (k + 1) xs) ≡ map f (take k xs) ++ f x ∷ []
map-more f xs k x within is =
    rw (take_more xs k x within, map-append) (ap (λ v. map f (take k xs) ++ f v ∷ []) (sym is))

-- Lemma: a mapped list is the elements before an index, the element there and those after it, each mapped.
pub map-split : {A B : Type 0} (f : A → B) (xs : List A) (k : ℕ) (x : A) → k < length xs → x ≡ get_or xs k x → map f xs ≡ map f (take k xs) ++ f x ∷ map f (drop (k + 1) xs)
map-split f xs k x within is =
    let parts : xs ≡ take k xs ++ get_or xs k x ∷ drop (k + 1) xs =
    sym (take-append-drop k xs) ∙ ap (λ rest. take k xs ++ rest) (drop_more xs k x within) in
    ap (map f) parts ∙ map-append f (take k xs) (get_or xs k x ∷ drop (k + 1) xs) ∙ ap (λ y. map f (take k xs) ++ f y ∷ map f (drop (k + 1) xs)) (sym is)

pub and-assoc : (a b c : Bool) → (a && (b && c)) ≡ ((a && b) && c)
and-assoc true b c = refl
and-assoc false b c = refl

pub and-true : (a : Bool) → (a && true) ≡ a
and-true true = refl
and-true false = refl

pub list_all-push : {A : Type 0} (test : A → Bool) (xs : List A) (x : A) → list_all test (xs ++ x ∷ []) ≡ (list_all test xs && test x)
list_all-push test [] x = and-true (test x)
list_all-push test (y ∷ ys) x = ap (λ b. test y && b) (list_all-push test ys x) ∙ and-assoc (test y) (list_all test ys) (test x)

pub and-false : (a : Bool) → false ≡ (a && false)
and-false true = refl
and-false false = refl

pub both-true : (a b : Bool) → (a && b) ≡ true → (a ≡ true) × (b ≡ true)
both-true true b is = (refl, is)
both-true false b is = let no : ⊥ = cc in absurd no
