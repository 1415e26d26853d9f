-- Lemmas on lists that lack a byte, and on splits at the first or last position of a byte.
use Rattle.xxhsum_line.proofs.Prelude.{ne_eqb, rules, Bool, true, false, ◌&&◌, and_parts, refl, eq-eqb, take_rest, is_byte, ◌≡◌, ◌≢◌, ℕ, suc, ◌+◌, ◌-◌, ◌<◌, ◌≤◌, List, [], ◌∷◌, ◌++◌, length, take, drop, get_or, sym, ap, subst, ◌∙◌, inl, inr, arith, drop_more}
use Rattle.xxhsum_line.proofs.Prelude.{take-append-drop, length-take-le, length-drop, get_or-take, get_or-drop, eqb_tells, Lacks, up_to_nul, without_return}
use Rattle.memchr.specs.Find.{NoneAfter, NoneBefore, Nowhere, Passes}

pub lacks_right : (b : ℕ) (x y : List ℕ) → Lacks b (x ++ y) → Lacks b y
lacks_right b [] y h = h
lacks_right b (c ∷ x) y h = lacks_right b x y h.1

pub lacks_both : (b : ℕ) (x y : List ℕ) → Lacks b x → Lacks b y → Lacks b (x ++ y)
lacks_both b [] y h k = k
lacks_both b (c ∷ x) y h k = (h.0, lacks_both b x y h.1 k)

-- True if each byte passes the test.
abbrev pub all_pass : (ℕ → Bool) → List ℕ → Bool
all_pass test [] = true
all_pass test (c ∷ cs) = test c && all_pass test cs

-- Lemma: bytes that pass a test lack each byte that fails it.
pub lacks_failing : (test : ℕ → Bool) (b : ℕ) (bytes : List ℕ) → test b ≡ false → all_pass test bytes ≡ true → Lacks b bytes
lacks_failing test b [] fails all = tt
lacks_failing test b (c ∷ cs) fails all =
    let both = and_parts (test c) (all_pass test cs) all in (
      λ e. let no : true ≡ false = sym both.0 ∙ ap test e ∙ fails in let none : ⊥ = cc in none,
      lacks_failing test b cs fails both.1,
    )

pub lacks_not : (b : ℕ) (x y : List ℕ) → Lacks b (x ++ b ∷ y) → ⊥
lacks_not b x y h = (lacks_right b x (b ∷ y) h).0 refl

-- Lemma: two splits of a list at its first `b` are the same.
pub first_same : (b : ℕ) (x y x' y' : List ℕ) → x ++ b ∷ y ≡ x' ++ b ∷ y' → Lacks b x → Lacks b x' → (x ≡ x') × (y ≡ y')
first_same b [] y [] y' e h h' = (refl, cc)
first_same b [] y (c ∷ x') y' e h h' = let here : c ≡ b = cc in absurd (h'.0 here)
first_same b (c ∷ x) y [] y' e h h' = let here : c ≡ b = cc in absurd (h.0 here)
first_same b (c ∷ x) y (c' ∷ x') y' e h h' =
    let heads : c ≡ c' = cc in
    let tails : x ++ b ∷ y ≡ x' ++ b ∷ y' = cc in
    let rest = first_same b x y x' y' tails h.1 h'.1 in
    let fronts : x ≡ x' = rest.0 in
    (cc, rest.1)

-- Lemma: two splits of a list at its last `b` are the same.
pub last_same : (b : ℕ) (x y x' y' : List ℕ) → x ++ b ∷ y ≡ x' ++ b ∷ y' → Lacks b y → Lacks b y' → (x ≡ x') × (y ≡ y')
last_same b [] y [] y' e h h' = (refl, cc)
last_same b [] y (c ∷ x') y' e h h' = let tails : y ≡ x' ++ b ∷ y' = cc in absurd (lacks_not b x' y' (subst (Lacks b) tails h))
last_same b (c ∷ x) y [] y' e h h' = let tails : y' ≡ x ++ b ∷ y = cc in absurd (lacks_not b x y (subst (Lacks b) tails h'))
last_same b (c ∷ x) y (c' ∷ x') y' e h h' =
    let heads : c ≡ c' = cc in
    let tails : x ++ b ∷ y ≡ x' ++ b ∷ y' = cc in
    let rest = last_same b x y x' y' tails h h' in
    let fronts : x ≡ x' = rest.0 in
    (cc, rest.1)

-- Lemma: a list lacks a byte if no index has the byte.
pub lacks_by_place : (b : ℕ) (l : List ℕ) → ((k : ℕ) → k < length l → get_or l k 0 ≡ b → ⊥) → Lacks b l
lacks_by_place b [] h = tt
lacks_by_place b (c ∷ l) h =
    (h 0 (omega arith), lacks_by_place b l (λ k lt. h (suc k) (omega arith)))

pub lacks_before : (b : ℕ) (l : List ℕ) (n : ℕ) → n ≤ length l
    → ((k : ℕ) → k < n → get_or l k 0 ≡ b → ⊥) → Lacks b (take n l)
lacks_before b l n le h =
    let len : length (take n l) ≡ n = length-take-le n l le in
    lacks_by_place b (take n l) (λ k lt e.
    let below : k < n = omega (arith, len, lt) in
    h k below (sym (get_or-take n l k 0 below) ∙ e))

pub lacks_from : (b : ℕ) (l : List ℕ) (n : ℕ)
    → ((k : ℕ) → n ≤ k → k < length l → get_or l k 0 ≡ b → ⊥) → Lacks b (drop n l)
lacks_from b l n h =
    let len : length (drop n l) ≡ length l - n = length-drop n l in
    lacks_by_place b (drop n l) (λ k lt e.
    let within : n + k < length l = omega (arith, len, lt) in
    h (n + k) (omega arith) within (sym (get_or-drop n l k 0) ∙ e))

-- Lemma: a list with `b` at index `i` is the elements before it, `b`, and the elements after it.
pub at_place : (l : List ℕ) (i b : ℕ) → i < length l → get_or l i 0 ≡ b → l ≡ take i l ++ b ∷ drop (i + 1) l
at_place l i b h e =
    sym (take-append-drop i l)
    ∙ ap (λ r. take i l ++ r) (drop_more l i 0 h)
    ∙ ap (λ x. take i l ++ x ∷ drop (i + 1) l) e

found : (b x : ℕ) → x ≡ b → is_byte b x ≡ true
found b x e = ap (is_byte b) e ∙ eq-eqb b b refl

-- Lemma: a list lacks a byte that a search doesn't find.
pub lacks_nowhere : (b : ℕ) (l : List ℕ) → Nowhere (Passes (is_byte b) l) 0 (length l) → Lacks b l
lacks_nowhere b l none = lacks_by_place b l (λ k lt e. none k (omega arith) lt (found b (get_or l k 0) e))

-- Lemma: the bytes before and after the first place of a byte.
pub split_first : (b : ℕ) (l : List ℕ) (f : ℕ) → NoneBefore (Passes (is_byte b) l) 0 (length l) f → Passes (is_byte b) l f
    → (l ≡ take f l ++ b ∷ take (length l - (f + 1)) (drop (f + 1) l)) × Lacks b (take f l)
split_first b l f first here = (
  at_place l f b first.high (search rules) ∙ ap (λ r. take f l ++ b ∷ r) (sym (take_rest l (f + 1))),
  lacks_before b l f (omega (arith, first.high)) (λ k lt e. first.before k (omega arith) lt (found b (get_or l k 0) e)),
)

-- Lemma: the bytes before and after the last place of a byte.
pub split_last : (b : ℕ) (l : List ℕ) (f : ℕ) → NoneAfter (Passes (is_byte b) l) 0 (length l) f → Passes (is_byte b) l f
    → (l ≡ take f l ++ b ∷ take (length l - (f + 1)) (drop (f + 1) l)) × Lacks b (take (length l - (f + 1)) (drop (f + 1) l))
split_last b l f last here = (
  at_place l f b last.high (search rules) ∙ ap (λ r. take f l ++ b ∷ r) (sym (take_rest l (f + 1))),
  subst (Lacks b) (sym (take_rest l (f + 1))) (lacks_from b l (f + 1) (λ k low lt e. last.after k low lt (found b (get_or l k 0) e))),
)

pub up_to_nul_whole : (l : List ℕ) → Lacks 0 l → up_to_nul l ≡ l
up_to_nul_whole [] h = refl
up_to_nul_whole (c ∷ l) h =
    elim (eqb_tells c 0) [
      | inl w ↦ absurd (h.0 w.1)
      | inr w ↦ rw (w.0) (ap (λ r. c ∷ r) (up_to_nul_whole l h.1))
    ]

pub up_to_nul_cut : (p r : List ℕ) → Lacks 0 p → up_to_nul (p ++ 0 ∷ r) ≡ p
up_to_nul_cut [] r h = refl
up_to_nul_cut (c ∷ p) r h =
    elim (eqb_tells c 0) [
      | inl w ↦ absurd (h.0 w.1)
      | inr w ↦ rw (w.0) (ap (λ x. c ∷ x) (up_to_nul_cut p r h.1))
    ]

-- ---- a carriage return at the end

pub without_return_whole : (l : List ℕ) → Lacks 13 l → without_return l ≡ l
without_return_whole [] h = refl
without_return_whole (c ∷ []) h =
    elim (eqb_tells c 13) [
      | inl w ↦ absurd (h.0 w.1)
      | inr w ↦ rw (w.0) refl
    ]
without_return_whole (c ∷ d ∷ l) h = ap (λ r. c ∷ r) (without_return_whole (d ∷ l) h.1)

-- Lemma: a line that ends with a carriage return loses it.
pub without_return_ends : (l : List ℕ) → 1 ≤ length l → get_or l (length l - 1) 0 ≡ 13 → take (length l - 1) l ≡ without_return l
without_return_ends [] some last = absurd (omega (arith, some))
without_return_ends (c ∷ []) some last = rw last refl
without_return_ends (c ∷ d ∷ l) some last =
    let e : length (c ∷ d ∷ l) - 1 ≡ suc (length (d ∷ l) - 1) = omega arith in
    rw e (ap (λ r. c ∷ r) (without_return_ends (d ∷ l) (omega arith) (rw e at last)))

-- Lemma: a line that ends with another byte stays as it is.
pub without_return_stays : (l : List ℕ) → get_or l (length l - 1) 0 ≢ 13 → l ≡ without_return l
without_return_stays [] other = refl
without_return_stays (c ∷ []) other = rw (ne_eqb c 13 other) refl
without_return_stays (c ∷ d ∷ l) other =
    let e : length (c ∷ d ∷ l) - 1 ≡ suc (length (d ∷ l) - 1) = omega arith in
    ap (λ r. c ∷ r) (without_return_stays (d ∷ l) (rw e at other))
