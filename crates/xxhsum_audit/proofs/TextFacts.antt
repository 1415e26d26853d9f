-- Proves that each result of an audit is one line, and that two results have different texts.
use Rattle.xxhsum_audit.proofs.Prelude.{◌≡◌, ◌≢◌, ℕ, Bool, true, false, List, [], ◌∷◌, ◌++◌, Option, Some, None, refl, sym, ap, subst, ◌∙◌, inl, inr, arith, codes, nat_eq, append-nil, append_assoc, append_cancel_left, append_cancel_right, reverse-append}
use Rattle.xxhsum_audit.proofs.Prelude.{if◌then◌else◌, cond-false, Changed, Classed, Copied, LinesDiffer, Missing, Moved, New, OtherLacks, RecordsDiffer, Remark, RemarkIsOneLine, Same, Unreadable, body_of, escape_behind}
use Rattle.xxhsum_audit.proofs.Prelude.{escaped_behind, has_separator, is_marked, is_separator, other_escaped, other_needs_escape, other_record, remark_text, told_name, told_other, told_words}
use Rattle.std.proofs.Common.{reverse}
use Rattle.std.proofs.lemmas.Bool.{and_parts, cases_eq, ne_eqb, or_parts}
use Rattle.std.proofs.lemmas.Bool.Decides.{nat_tests}
use Rattle.std.specs.Prelude.{is_some, nat_le, ◌||◌}
use Rattle.xxhsum_line.proofs.EscapeFacts.{escape_is_undone, escaped_lacks_line_feed, plain_names_stay}
use Rattle.xxhsum_line.proofs.LackFacts.{all_pass, first_same, lacks_both, lacks_failing}
use Rattle.xxhsum_line.specs.Escapes.{escape, escaped, is_special, needs_escape, unescaped}
use Rattle.xxhsum_line.specs.Parts.{Lacks}

-- ---- the words of a class

abbrev is_letter : ℕ → Bool
is_letter c = nat_eq c 32 || nat_le 97 c

abbrev are_letters : List ℕ → Bool
are_letters text = all_pass is_letter text

letters-lack : (byte : ℕ) (text : List ℕ) → is_letter byte ≡ false → are_letters text ≡ true → Lacks byte text
letters-lack byte text other all = lacks_failing is_letter byte text other all

-- Lemma: what holds of the words of each class holds of the words of a result.
pub each-words : (P : List ℕ → Type 0) → P (codes "same") → P (codes "changed") → P (codes "moved from") → P (codes "copy of") → P (codes "new")
    → P (codes "missing") → P (codes "unreadable") → (r : Remark) → P (told_words r)
each-words P same changed moved copied new missing unreadable (Classed (Same l n)) = same
each-words P same changed moved copied new missing unreadable (Classed (Changed l n)) = changed
each-words P same changed moved copied new missing unreadable (Classed (Moved l n)) = moved
each-words P same changed moved copied new missing unreadable (Classed (Copied o n)) = copied
each-words P same changed moved copied new missing unreadable (Classed (New n)) = new
each-words P same changed moved copied new missing unreadable (Classed (Missing l)) = missing
each-words P same changed moved copied new missing unreadable (Unreadable n) = unreadable

words-are : (r : Remark) → are_letters (told_words r) ≡ true
words-are = each-words (λ words. are_letters words ≡ true) refl refl refl refl refl refl refl

-- The words that begin with these letters.
abbrev words_at : ℕ → ℕ → List ℕ
words_at c d =
    if nat_eq c 115 then codes "same"
    else if nat_eq c 110 then codes "new"
    else if nat_eq c 117 then codes "unreadable"
    else if nat_eq c 99 then (if nat_eq d 104 then codes "changed" else codes "copy of")
    else if nat_eq d 111 then codes "moved from"
    else codes "missing"

abbrev first_words : List ℕ → List ℕ
first_words [] = []
first_words (c ∷ []) = []
first_words (c ∷ d ∷ cs) = words_at c d

words-first : (r : Remark) (t : List ℕ) → first_words (told_words r ++ t) ≡ told_words r
words-first r t = each-words (λ words. first_words (words ++ t) ≡ words) refl refl refl refl refl refl refl r

same-words : (a b : Remark) (t u : List ℕ) → told_words a ++ t ≡ told_words b ++ u → (told_words a ≡ told_words b) × (t ≡ u)
same-words a b t u e =
    let words = sym (words-first a t) ∙ ap first_words e ∙ words-first b u in
    (words, append_cancel_left (told_words a) t u (subst (λ w. told_words a ++ t ≡ w ++ u) (sym words) e))

-- The words that end with these letters.
abbrev words_to : ℕ → ℕ → List ℕ
words_to c d =
    if nat_eq c 101 then (if nat_eq d 109 then codes "same" else codes "unreadable")
    else if nat_eq c 100 then codes "changed"
    else if nat_eq c 109 then codes "moved from"
    else if nat_eq c 102 then codes "copy of"
    else if nat_eq c 119 then codes "new"
    else codes "missing"

abbrev last_words : List ℕ → List ℕ
last_words [] = []
last_words (c ∷ []) = []
last_words (c ∷ d ∷ cs) = words_to c d

words-last : (r : Remark) (t : List ℕ) → last_words (reverse (58 ∷ 32 ∷ told_words r) ++ t) ≡ told_words r
words-last r t = each-words (λ words. last_words (reverse (58 ∷ 32 ∷ words) ++ t) ≡ words) refl refl refl refl refl refl refl r

-- True if the words refer to another name.
abbrev do_refer : List ℕ → Bool
do_refer [] = false
do_refer (c ∷ []) = false
do_refer (c ∷ d ∷ cs) = nat_eq d 111

words-refer : (r : Remark) → do_refer (told_words r) ≡ is_some (told_other r)
words-refer (Classed (Same l n)) = refl
words-refer (Classed (Changed l n)) = refl
words-refer (Classed (Moved l n)) = refl
words-refer (Classed (Copied o n)) = refl
words-refer (Classed (New n)) = refl
words-refer (Classed (Missing l)) = refl
words-refer (Unreadable n) = refl

-- ---- the first byte of an escaped name

-- The byte that a text begins with, unescaped, and the text after it.
abbrev letter_of : ℕ → ℕ
letter_of c = if nat_eq c 110 then 10 else if nat_eq c 114 then 13 else c

abbrev behind_backslash : List ℕ → ℕ × List ℕ
behind_backslash [] = (0, [])
behind_backslash (c ∷ cs) = (letter_of c, cs)

abbrev first_meant : List ℕ → ℕ × List ℕ
first_meant [] = (0, [])
first_meant (c ∷ cs) = if nat_eq c 92 then behind_backslash cs else (c, cs)

plain-byte : (c : ℕ) → c ≢ 92 → c ≢ 10 → c ≢ 13 → escape c ≡ c ∷ []
plain-byte c n n' n'' =
    cond-false (nat_eq c 92) _ _ (ne_eqb c 92 n) ∙ cond-false (nat_eq c 10) _ _ (ne_eqb c 10 n') ∙ cond-false (nat_eq c 13) _ _ (ne_eqb c 13 n'')

meant-escape : (c : ℕ) (rest : List ℕ) → first_meant (escape c ++ rest) ≡ (c, rest)
meant-escape c rest =
    elim (cases_eq c 92) [
      | inl e ↦ rw e refl
      | inr n ↦ elim (cases_eq c 10) [
        | inl e ↦ rw e refl
        | inr n' ↦ elim (cases_eq c 13) [
          | inl e ↦ rw e refl
          | inr n'' ↦ ap (λ x. first_meant (x ++ rest)) (plain-byte c n n' n'') ∙ cond-false (nat_eq c 92) _ _ (ne_eqb c 92 n)
        ]
      ]
    ]

meant-by : (before c : ℕ) (rest : List ℕ) (test : Bool) → is_separator before c ≡ test → first_meant (escape_behind before c ++ rest) ≡ (c, rest)
meant-by before c rest true e =
    let both = and_parts (nat_eq before 58) (nat_eq c 32) e in
    let space : c ≡ 32 = grind (arith, nat_tests, both) in
    ap (λ t. first_meant ((if t then 92 ∷ 32 ∷ [] else escape c) ++ rest)) e ∙ ap (λ b. (b, rest)) (sym space)
meant-by before c rest false e =
    ap (λ t. first_meant ((if t then 92 ∷ 32 ∷ [] else escape c) ++ rest)) e ∙ meant-escape c rest

-- Lemma: the first byte of a name is the first byte that its escaped form means.
meant-first : (before c : ℕ) (cs t : List ℕ) → first_meant (escaped_behind before (c ∷ cs) ++ t) ≡ (c, escaped_behind c cs ++ t)
meant-first before c cs t =
    ap first_meant (append_assoc (escape_behind before c) (escaped_behind c cs) t)
    ∙ meant-by before c (escaped_behind c cs ++ t) (is_separator before c) refl

-- ---- the end of a first name

-- Lemma: an escaped name has no space after a colon.
no-space : (name t u : List ℕ) → 32 ∷ t ≡ escaped_behind 58 name ++ 58 ∷ 32 ∷ u → ⊥
no-space [] t u e = let no : ◌≡◌ {A = ℕ} 32 58 = cc in omega arith
no-space (c ∷ cs) t u e =
    let pair : ◌≡◌ {A = ℕ × List ℕ} (32, t) (c, escaped_behind c cs ++ 58 ∷ 32 ∷ u) = ap first_meant e ∙ meant-first 58 c cs (58 ∷ 32 ∷ u) in
    let space : 32 ≡ c = ap (λ p. p.0) pair in
    let first : 32 ∷ t ≡ (escape_behind 58 32 ++ escaped_behind 32 cs) ++ 58 ∷ 32 ∷ u =
    subst (λ b. 32 ∷ t ≡ (escape_behind 58 b ++ escaped_behind b cs) ++ 58 ∷ 32 ∷ u) (sym space) e in
    let no : ◌≡◌ {A = ℕ} 32 92 = cc in omega arith

-- Lemma: two splits of a line after its first name are the same.
split : (before : ℕ) (x y t u : List ℕ) → escaped_behind before x ++ 58 ∷ 32 ∷ t ≡ escaped_behind before y ++ 58 ∷ 32 ∷ u → (x ≡ y) × (t ≡ u)
split before [] [] t u e = (refl, cc)
split before [] (c ∷ y) t u e =
    let pair : ◌≡◌ {A = ℕ × List ℕ} (58, 32 ∷ t) (c, escaped_behind c y ++ 58 ∷ 32 ∷ u) = ap first_meant e ∙ meant-first before c y (58 ∷ 32 ∷ u) in
    let colon : 58 ≡ c = ap (λ p. p.0) pair in
    absurd (no-space y t u (subst (λ b. 32 ∷ t ≡ escaped_behind b y ++ 58 ∷ 32 ∷ u) (sym colon) (ap (λ p. p.1) pair)))
split before (c ∷ x) [] t u e =
    let pair : ◌≡◌ {A = ℕ × List ℕ} (58, 32 ∷ u) (c, escaped_behind c x ++ 58 ∷ 32 ∷ t) = ap first_meant (sym e) ∙ meant-first before c x (58 ∷ 32 ∷ t) in
    let colon : 58 ≡ c = ap (λ p. p.0) pair in
    absurd (no-space x u t (subst (λ b. 32 ∷ u ≡ escaped_behind b x ++ 58 ∷ 32 ∷ t) (sym colon) (ap (λ p. p.1) pair)))
split before (c ∷ x) (d ∷ y) t u e =
    let pair : ◌≡◌ {A = ℕ × List ℕ} (c, escaped_behind c x ++ 58 ∷ 32 ∷ t) (d, escaped_behind d y ++ 58 ∷ 32 ∷ u) =
    sym (meant-first before c x (58 ∷ 32 ∷ t)) ∙ ap first_meant e ∙ meant-first before d y (58 ∷ 32 ∷ u) in
    let heads : c ≡ d = ap (λ p. p.0) pair in
    let tails = subst (λ b. escaped_behind c x ++ 58 ∷ 32 ∷ t ≡ escaped_behind b y ++ 58 ∷ 32 ∷ u) (sym heads) (ap (λ p. p.1) pair) in
    let rest = split c x y t u tails in
    let fronts : x ≡ y = rest.0 in
    (cc, rest.1)

same-other : (o p : Option (List ℕ)) → other_escaped o ≡ other_escaped p → o ≡ p
same-other None None e = refl
same-other None (Some y) e = let no : ⊥ = cc in absurd no
same-other (Some x) None e = let no : ⊥ = cc in absurd no
same-other (Some x) (Some y) e =
    let tails : escaped x ≡ escaped y = cc in sym (escape_is_undone x) ∙ ap unescaped tails ∙ escape_is_undone y

-- ---- lines

byte-lacks : (test : Bool) (c : ℕ) → Lacks 10 (if test then 92 ∷ 32 ∷ [] else escape c)
byte-lacks true c = (λ (e : ◌≡◌ {A = ℕ} 92 10). omega arith, (λ (e : ◌≡◌ {A = ℕ} 32 10). omega arith, tt))
byte-lacks false c = subst (Lacks 10) (append-nil (escape c)) (escaped_lacks_line_feed (c ∷ []))

behind-lacks : (before : ℕ) (name : List ℕ) → Lacks 10 (escaped_behind before name)
behind-lacks before [] = tt
behind-lacks before (c ∷ cs) =
    lacks_both 10 (escape_behind before c) (escaped_behind c cs) (byte-lacks (is_separator before c) c) (behind-lacks c cs)

other-lacks : (o : Option (List ℕ)) → Lacks 10 (other_escaped o)
other-lacks None = tt
other-lacks (Some other) = (λ (e : ◌≡◌ {A = ℕ} 32 10). omega arith, escaped_lacks_line_feed other)

mark-lacks : (test : Bool) → Lacks 10 (if test then 92 ∷ [] else [])
mark-lacks true = (λ (e : ◌≡◌ {A = ℕ} 92 10). omega arith, tt)
mark-lacks false = tt

-- The names and the words of a remark, escaped, and its line without the newline.
abbrev body : Remark → List ℕ
body r = body_of (told_name r) (told_words r) (told_other r)

abbrev is_escaped : Remark → Bool
is_escaped r = is_marked (told_name r) (told_other r)

abbrev line : Remark → List ℕ
line r = (if is_escaped r then 92 ∷ [] else []) ++ body r

line-lacks : (r : Remark) → Lacks 10 (line r)
line-lacks r =
    lacks_both 10 (if is_escaped r then 92 ∷ [] else []) (body r) (mark-lacks (is_escaped r))
    (lacks_both 10 (escaped_behind 0 (told_name r)) (58 ∷ 32 ∷ (told_words r ++ other_escaped (told_other r))) (behind-lacks 0 (told_name r)) (
      λ (e : ◌≡◌ {A = ℕ} 58 10). omega arith,
      (λ (e : ◌≡◌ {A = ℕ} 32 10). omega arith, lacks_both 10 (told_words r) (other_escaped (told_other r)) (letters-lack 10 (told_words r) refl (words-are r)) (other-lacks (told_other r))),
    ))

pub remark_is_one_line : RemarkIsOneLine
remark_is_one_line r =
    (line r, refl, line-lacks r)

-- ---- the backslash before a line

plain-special : (c : ℕ) → is_special c ≡ false → (escape c ≡ c ∷ []) × (c ≢ 92)
plain-special c e =
    let first = or_parts (nat_eq c 92) (nat_eq c 10 || nat_eq c 13) e in
    let second = or_parts (nat_eq c 10) (nat_eq c 13) first.1 in (
      cond-false (nat_eq c 92) _ _ first.0 ∙ cond-false (nat_eq c 10) _ _ second.0 ∙ cond-false (nat_eq c 13) _ _ second.1,
      λ is. let no : true ≡ false = sym (ap (λ b. nat_eq b 92) is) ∙ first.0 in let none : ⊥ = cc in none,
    )

behind-plain : (before : ℕ) (name : List ℕ) → needs_escape name ≡ false → has_separator before name ≡ false → Lacks 92 (escaped_behind before name)
behind-plain before [] e e' = tt
behind-plain before (c ∷ cs) e e' =
    let special = or_parts (is_special c) (needs_escape cs) e in
    let space = or_parts (is_separator before c) (has_separator c cs) e' in
    let plain = plain-special c special.0 in
    let same : escape_behind before c ≡ c ∷ [] = cond-false (is_separator before c) (92 ∷ 32 ∷ []) (escape c) space.0 ∙ plain.0 in
    lacks_both 92 (escape_behind before c) (escaped_behind c cs) (subst (Lacks 92) (sym same) (plain.1, tt)) (behind-plain c cs special.1 space.1)

name-plain : (name : List ℕ) → needs_escape name ≡ false → Lacks 92 name
name-plain [] e = tt
name-plain (c ∷ cs) e =
    let special = or_parts (is_special c) (needs_escape cs) e in ((plain-special c special.0).1, name-plain cs special.1)

other-plain : (o : Option (List ℕ)) → other_needs_escape o ≡ false → Lacks 92 (other_escaped o)
other-plain None e = tt
other-plain (Some other) e =
    (λ (no : ◌≡◌ {A = ℕ} 32 92). omega arith, subst (Lacks 92) (sym (plain_names_stay other e)) (name-plain other e))

body-plain : (r : Remark) → is_escaped r ≡ false → Lacks 92 (body r)
body-plain r e =
    let first = or_parts (needs_escape (told_name r)) (has_separator 0 (told_name r) || other_needs_escape (told_other r)) e in
    let second = or_parts (has_separator 0 (told_name r)) (other_needs_escape (told_other r)) first.1 in
    lacks_both 92 (escaped_behind 0 (told_name r)) (58 ∷ 32 ∷ (told_words r ++ other_escaped (told_other r)))
    (behind-plain 0 (told_name r) first.0 second.0) (
      λ (no : ◌≡◌ {A = ℕ} 58 92). omega arith,
      (λ (no : ◌≡◌ {A = ℕ} 32 92). omega arith, lacks_both 92 (told_words r) (other_escaped (told_other r)) (letters-lack 92 (told_words r) refl (words-are r)) (other-plain (told_other r) second.1)),
    )

same-body : (m n : Bool) (x y : List ℕ) → (m ≡ false → Lacks 92 x) → (n ≡ false → Lacks 92 y)
    → (if m then 92 ∷ [] else []) ++ x ≡ (if n then 92 ∷ [] else []) ++ y → x ≡ y
same-body true true x y lacks lacks' e = cc
same-body false false x y lacks lacks' e = e
same-body true false x y lacks lacks' e = absurd ((subst (Lacks 92) (sym e) (lacks' refl)).0 refl)
same-body false true x y lacks lacks' e = absurd ((subst (Lacks 92) e (lacks refl)).0 refl)

line-first : (r : Remark) (behind : List ℕ) → remark_text false r ++ behind ≡ line r ++ 10 ∷ behind
line-first r behind =
    append_assoc (line r) (10 ∷ []) behind

pub lines_differ : LinesDiffer
lines_differ a b behind behind' e =
    let lines = first_same 10 (line a) behind (line b) behind' (sym (line-first a behind) ∙ e ∙ line-first b behind') (line-lacks a) (line-lacks b) in
    let bodies = same-body (is_escaped a) (is_escaped b) (body a) (body b) (body-plain a) (body-plain b) lines.0 in
    let parts = split 0 (told_name a) (told_name b) (told_words a ++ other_escaped (told_other a)) (told_words b ++ other_escaped (told_other b)) bodies in
    let words = same-words a b (other_escaped (told_other a)) (other_escaped (told_other b)) parts.1 in
    ((parts.0, words.0, same-other (told_other a) (told_other b) words.1), lines.1)

-- ---- records that end with a NUL

abbrev field : Remark → List ℕ
field r = told_name r ++ 58 ∷ 32 ∷ told_words r

field-lacks : (r : Remark) → Lacks 0 (told_name r) → Lacks 0 (field r)
field-lacks r lacks =
    lacks_both 0 (told_name r) (58 ∷ 32 ∷ told_words r) lacks (
      λ (e : ◌≡◌ {A = ℕ} 58 0). omega arith,
      (λ (e : ◌≡◌ {A = ℕ} 32 0). omega arith, letters-lack 0 (told_words r) refl (words-are r)),
    )

field-first : (r : Remark) (behind : List ℕ) → remark_text true r ++ behind ≡ field r ++ 0 ∷ (other_record (told_other r) ++ behind)
field-first r behind =
    append_assoc (told_name r) (58 ∷ 32 ∷ (told_words r ++ 0 ∷ other_record (told_other r))) behind
    ∙ ap (λ x. told_name r ++ 58 ∷ 32 ∷ x) (append_assoc (told_words r) (0 ∷ other_record (told_other r)) behind)
    ∙ sym (append_assoc (told_name r) (58 ∷ 32 ∷ told_words r) (0 ∷ (other_record (told_other r) ++ behind)))

same-field : (a b : Remark) → field a ≡ field b → (told_name a ≡ told_name b) × (told_words a ≡ told_words b)
same-field a b e =
    let from-end : (r : Remark) → last_words (reverse (field r)) ≡ told_words r =
    λ (r : Remark). ap last_words (reverse-append (told_name r) (58 ∷ 32 ∷ told_words r)) ∙ words-last r (reverse (told_name r)) in
    let words = sym (from-end a) ∙ ap (λ x. last_words (reverse x)) e ∙ from-end b in (
      append_cancel_right (told_name a) (told_name b) (58 ∷ 32 ∷ told_words a) (subst (λ w. field a ≡ told_name b ++ 58 ∷ 32 ∷ w) (sym words) e),
      words,
    )

same-record : (o p : Option (List ℕ)) (behind behind' : List ℕ) → is_some o ≡ is_some p → OtherLacks 0 o → OtherLacks 0 p
    → other_record o ++ behind ≡ other_record p ++ behind' → (o ≡ p) × (behind ≡ behind')
same-record None None behind behind' is lacks lacks' e = (refl, e)
same-record None (Some y) behind behind' is lacks lacks' e = let no : ⊥ = cc in absurd no
same-record (Some x) None behind behind' is lacks lacks' e = let no : ⊥ = cc in absurd no
same-record (Some x) (Some y) behind behind' is lacks lacks' e =
    let both = first_same 0 x behind y behind' (sym (append_assoc x (0 ∷ []) behind) ∙ e ∙ append_assoc y (0 ∷ []) behind') lacks lacks' in
    (ap Some both.0, both.1)

pub records_differ : RecordsDiffer
records_differ a b behind behind' lacks lacks' e =
    let fields = first_same 0 (field a) (other_record (told_other a) ++ behind) (field b) (other_record (told_other b) ++ behind')
    (sym (field-first a behind) ∙ e ∙ field-first b behind') (field-lacks a lacks.0) (field-lacks b lacks'.0) in
    let same = same-field a b fields.0 in
    let refer = sym (words-refer a) ∙ ap do_refer same.1 ∙ words-refer b in
    let others = same-record (told_other a) (told_other b) behind behind' refer lacks.1 lacks'.1 fields.1 in
    ((same.0, same.1, others.0), others.1)
