-- Lemmas on escaped names: their meaning, the bytes that they lack, and their length.
use Rattle.xxhsum_line.proofs.Prelude.{◌≡◌, ◌≢◌, ◌⊎◌, ℕ, ◌+◌, ◌*◌, ◌<◌, ◌≤◌, Bool, true, false, ◌||◌, nat_eq, List, [], ◌∷◌, ◌++◌, length, take, get_or, Option, Some, None, refl, sym, ap, ◌∙◌, inl, inr, append-nil, append_assoc, drop_more}
use Rattle.xxhsum_line.proofs.Prelude.{length-append, arith, option_and_then, cases_eq, cond-false, ne_eqb, or_parts, take_more, before, escape, escaped, is_special, meant_behind, meant_by, needs_escape, unescaped, Lacks}
use Rattle.xxhsum_line.proofs.LackFacts.{lacks_both}

-- ---- bytes of an escaped name

stays : (c : ℕ) → nat_eq c 92 ≡ false → nat_eq c 10 ≡ false → nat_eq c 13 ≡ false → escape c ≡ c ∷ []
stays c e e' e'' = cond-false (nat_eq c 92) _ _ e ∙ cond-false (nat_eq c 10) _ _ e' ∙ cond-false (nat_eq c 13) _ _ e''

cases : (c : ℕ) → (c ≡ 92) ⊎ ((c ≡ 10) ⊎ ((c ≡ 13) ⊎ ((c ≢ 92) × (c ≢ 10) × (c ≢ 13) × (escape c ≡ c ∷ []))))
cases c =
    elim (cases_eq c 92) [
      | inl e ↦ inl e
      | inr n ↦ elim (cases_eq c 10) [
        | inl e ↦ inr (inl e)
        | inr n' ↦ elim (cases_eq c 13) [
          | inl e ↦ inr (inr (inl e))
          | inr n'' ↦ inr (inr (inr (n, n', n'', stays c (ne_eqb c 92 n) (ne_eqb c 10 n') (ne_eqb c 13 n''))))
        ]
      ]
    ]

or_assoc : (a b c : Bool) → (a || (b || c)) ≡ ((a || b) || c)
or_assoc true b c = refl
or_assoc false b c = refl

pub escaped_append : (x y : List ℕ) → escaped (x ++ y) ≡ escaped x ++ escaped y
escaped_append [] y = refl
escaped_append (c ∷ x) y = ap (λ r. escape c ++ r) (escaped_append x y) ∙ sym (append_assoc (escape c) (escaped x) (escaped y))

pub needs_append : (x y : List ℕ) → needs_escape (x ++ y) ≡ (needs_escape x || needs_escape y)
needs_append [] y = refl
needs_append (c ∷ x) y = ap (λ r. is_special c || r) (needs_append x y) ∙ or_assoc (is_special c) (needs_escape x) (needs_escape y)

-- Lemma: one more byte of a name appends its escape to the escaped name.
pub escaped_more : (name : List ℕ) (i : ℕ) → i < length name → escaped (take (i + 1) name) ≡ escaped (take i name) ++ escape (get_or name i 0)
escaped_more name i h =
    ap escaped (take_more name i 0 h)
    ∙ escaped_append (take i name) (get_or name i 0 ∷ [])
    ∙ ap (λ r. escaped (take i name) ++ r) (append-nil (escape (get_or name i 0)))

-- ---- the meaning of an escaped name

before_before : (x y : List ℕ) (rest : Option (List ℕ)) → before x (before y rest) ≡ before (x ++ y) rest
before_before x y None = refl
before_before x y (Some r) = ap Some (sym (append_assoc x y r))

pub meant_letter : (name rest : List ℕ) (c b : ℕ) → meant_by c ≡ Some b
    → before name (meant_behind true (c ∷ rest)) ≡ before (name ++ b ∷ []) (meant_behind false rest)
meant_letter name rest c b e =
    ap (λ o. before name (option_and_then (λ x. before (x ∷ []) (meant_behind false rest)) o)) e
    ∙ before_before name (b ∷ []) (meant_behind false rest)

pub meant_backslash : (name rest : List ℕ) (c : ℕ) → c ≡ 92
    → before name (meant_behind false (c ∷ rest)) ≡ before name (meant_behind true rest)
meant_backslash name rest c e = ap (λ x. before name (meant_behind false (x ∷ rest))) e

meant_itself : (rest : List ℕ) (c : ℕ) → c ≢ 92 → meant_behind false (c ∷ rest) ≡ before (c ∷ []) (meant_behind false rest)
meant_itself rest c n = cond-false (nat_eq c 92) _ _ (ne_eqb c 92 n)

pub meant_plain : (name rest : List ℕ) (c : ℕ) → c ≢ 92
    → before name (meant_behind false (c ∷ rest)) ≡ before (name ++ c ∷ []) (meant_behind false rest)
meant_plain name rest c n =
    ap (before name) (meant_itself rest c n) ∙ before_before name (c ∷ []) (meant_behind false rest)

escape_meant : (c : ℕ) (rest : List ℕ) → meant_behind false (escape c ++ rest) ≡ before (c ∷ []) (meant_behind false rest)
escape_meant c rest =
    elim (cases c) [
      | inl e ↦ rw e refl
      | inr (inl e) ↦ rw e refl
      | inr (inr (inl e)) ↦ rw e refl
      | inr (inr (inr p)) ↦ ap (λ x. meant_behind false (x ++ rest)) p.3 ∙ meant_itself rest c p.0
    ]

pub escape_is_undone : (name : List ℕ) → unescaped (escaped name) ≡ Some name
escape_is_undone [] = refl
escape_is_undone (c ∷ name) = escape_meant c (escaped name) ∙ ap (before (c ∷ [])) (escape_is_undone name)

-- Lemma: the escaped form of a name that needs no escape is the name.
pub plain_names_stay : (name : List ℕ) → needs_escape name ≡ false → escaped name ≡ name
plain_names_stay [] h = refl
plain_names_stay (c ∷ name) h =
    let both = or_parts (is_special c) (needs_escape name) h in
    let first = or_parts (nat_eq c 92) (nat_eq c 10 || nat_eq c 13) both.0 in
    let second = or_parts (nat_eq c 10) (nat_eq c 13) first.1 in
    ap (λ e. e ++ escaped name) (stays c first.0 second.0 second.1) ∙ ap (λ r. c ∷ r) (plain_names_stay name both.1)

-- ---- bytes that an escaped name lacks

escape_lacks : (b c : ℕ) → b < 32 → (c ≢ 92 → c ≢ 10 → c ≢ 13 → c ≢ b) → Lacks b (escape c)
escape_lacks b c low other =
    let backslash : ◌≢◌ {A = ℕ} 92 b = λ (e : ◌≡◌ {A = ℕ} 92 b). omega arith in
    let n : ◌≢◌ {A = ℕ} 110 b = λ (e : ◌≡◌ {A = ℕ} 110 b). omega arith in
    let r : ◌≢◌ {A = ℕ} 114 b = λ (e : ◌≡◌ {A = ℕ} 114 b). omega arith in
    elim (cases c) [
      | inl e ↦ rw e (backslash, (backslash, tt))
      | inr (inl e) ↦ rw e (backslash, (n, tt))
      | inr (inr (inl e)) ↦ rw e (backslash, (r, tt))
      | inr (inr (inr p)) ↦ rw (p.3) (other p.0 p.1 p.2, tt)
    ]

pub escaped_lacks_line_feed : (name : List ℕ) → Lacks 10 (escaped name)
escaped_lacks_line_feed [] = tt
escaped_lacks_line_feed (c ∷ name) =
    lacks_both 10 (escape c) (escaped name) (escape_lacks 10 c (omega arith) (λ m n r. n)) (escaped_lacks_line_feed name)

pub escaped_lacks_return : (name : List ℕ) → Lacks 13 (escaped name)
escaped_lacks_return [] = tt
escaped_lacks_return (c ∷ name) =
    lacks_both 13 (escape c) (escaped name) (escape_lacks 13 c (omega arith) (λ m n r. r)) (escaped_lacks_return name)

pub escaped_lacks_nul : (name : List ℕ) → Lacks 0 name → Lacks 0 (escaped name)
escaped_lacks_nul [] h = tt
escaped_lacks_nul (c ∷ name) h =
    lacks_both 0 (escape c) (escaped name) (escape_lacks 0 c (omega arith) (λ m n r. h.0)) (escaped_lacks_nul name h.1)

-- ---- the length of an escaped name

escape_length : (c : ℕ) → length (escape c) ≤ 2
escape_length c =
    elim (cases c) [
      | inl e ↦ rw e (omega arith)
      | inr (inl e) ↦ rw e (omega arith)
      | inr (inr (inl e)) ↦ rw e (omega arith)
      | inr (inr (inr p)) ↦ rw (p.3) (omega arith)
    ]

pub escaped_length : (name : List ℕ) → length (escaped name) ≤ 2 * length name
escaped_length [] = omega arith
escaped_length (c ∷ name) =
    let parts : length (escape c ++ escaped name) ≡ length (escape c) + length (escaped name) = length-append (escape c) (escaped name) in
    omega (arith, parts, escape_length c, escaped_length name)

-- Lemmas on a name that is escaped byte by byte.
pub ruleset escape_by_escape = (append_assoc, escaped_more)

-- Lemmas on the meaning of the next byte of an escaped name.
pub ruleset meanings = (drop_more, meant_backslash, meant_letter, meant_plain)
