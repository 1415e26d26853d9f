-- Proves that the JSON object of each result is one line, and that objects with the same text have the same members.
use Rattle.xxhsum_audit.proofs.Prelude.{◌≡◌, ◌≢◌, ℕ, ◌<◌, Bool, true, false, List, [], ◌∷◌, ◌++◌, Option, Some, None, refl, sym, ap, subst, ◌∙◌, inl, arith, codes, nat_eq, append_assoc, append_cancel_left, if◌then◌else◌, cond-false}
use Rattle.std.proofs.lemmas.Bool.{and_parts, ne_eqb}
use Rattle.std.proofs.lemmas.Bool.Decides.{nat_tests}
use Rattle.std.specs.Prelude.{◌&&◌, nat_le, nat_lt, not}
use Rattle.std.specs.Str.{is_utf8}
use Rattle.xxh_io.proofs.HexValue.{hex_value-hex_digits}
use Rattle.xxh_io.specs.Hex.{hex_digits, hex_value}
use Rattle.xxhsum_audit.specs.Json.{ObjectIsOneLine, ObjectsDiffer, digits_in, json_byte, json_bytes, json_string, member, remark_json, told_actual, told_listed, told_state}
use Rattle.xxhsum_audit.specs.Text.{Remark, told_name, told_other}
use Rattle.xxhsum_line.proofs.LackFacts.{all_pass, lacks_both, lacks_failing}
use Rattle.xxhsum_line.proofs.ShownFacts.{lacks_hex}
use Rattle.xxhsum_line.specs.Parts.{Lacks}

-- ---- the forms of a byte

by-test : (P : List ℕ → Type 0) (test : Bool) (this that : List ℕ) → (test ≡ true → P this) → (test ≡ false → P that) → P (if test then this else that)
by-test P true this that is other = is refl
by-test P false this that is other = other refl

at-byte : (P : ℕ → List ℕ → Type 0) (c k : ℕ) (this that : List ℕ) → P k this → (c ≢ k → P c that) → P c (if nat_eq c k then this else that)
at-byte P c k this that is other =
    by-test (P c) (nat_eq c k) this that (λ e. let same : k ≡ c = grind (arith, nat_tests, e) in subst (λ d. P d this) same is)
    (λ e. other (λ same. let none : ⊥ = grind (arith, nat_tests, e, same) in none))

-- Lemma: what holds of each form of a byte holds of the byte.
each-byte : (is_text : Bool) (c : ℕ) (P : ℕ → List ℕ → Type 0)
    → P 34 (codes "\\\"") → P 92 (codes "\\\\") → P 8 (codes "\\b") → P 9 (codes "\\t") → P 10 (codes "\\n") → P 12 (codes "\\f") → P 13 (codes "\\r")
    → ((d : ℕ) → d < 256 → P d (codes "\\u00" ++ hex_digits 2 d) × P d (codes "\\udc" ++ hex_digits 2 d))
    → ((d : ℕ) → d ≢ 92 → d ≢ 10 → P d (d ∷ [])) → P c (json_byte is_text c)
each-byte is_text c P quote backslash b t n f r code plain =
    at-byte P c 34 _ _ quote (λ _.
    at-byte P c 92 _ _ backslash (λ no_backslash.
    at-byte P c 8 _ _ b (λ _.
    at-byte P c 9 _ _ t (λ _.
    at-byte P c 10 _ _ n (λ no_newline.
    at-byte P c 12 _ _ f (λ _.
    at-byte P c 13 _ _ r (λ _.
    by-test (P c) (nat_lt c 32) _ _ (λ e. (code c (grind (arith, nat_tests, e))).0) (λ _.
    by-test (P c) (not is_text && (nat_le 128 c && nat_lt c 256)) _ _
    (λ e. let small = (and_parts (nat_le 128 c) (nat_lt c 256) (and_parts (not is_text) _ e).1).1 in (code c (grind (arith, nat_tests, small))).1)
    (λ _. plain c no_backslash no_newline)))))))))

-- ---- the bytes that a string means

abbrev letter_of : ℕ → ℕ
letter_of c =
    if nat_eq c 98 then 8 else if nat_eq c 116 then 9 else if nat_eq c 110 then 10 else if nat_eq c 102 then 12 else if nat_eq c 114 then 13 else c

abbrev behind_u : List ℕ → ℕ × List ℕ
behind_u (x ∷ y ∷ high ∷ low ∷ cs) = (hex_value (high ∷ low ∷ []), cs)
behind_u cs = (0, cs)

abbrev behind_backslash : List ℕ → ℕ × List ℕ
behind_backslash [] = (0, [])
behind_backslash (c ∷ cs) = if nat_eq c 117 then behind_u cs else (letter_of c, cs)

-- The first byte that a string means, and the text after it.
abbrev first_meant : List ℕ → ℕ × List ℕ
first_meant [] = (0, [])
first_meant (c ∷ cs) = if nat_eq c 92 then behind_backslash cs else (c, cs)

meant-byte : (is_text : Bool) (c : ℕ) (rest : List ℕ) → first_meant (json_byte is_text c ++ rest) ≡ (c, rest)
meant-byte is_text c rest =
    each-byte is_text c (λ d bytes. first_meant (bytes ++ rest) ≡ (d, rest)) refl refl refl refl refl refl refl
    (λ d small. let value = ap (λ v. (v, rest)) (hex_value-hex_digits 2 d small) in (value, value)) (λ d n _. cond-false (nat_eq d 92) _ _ (ne_eqb d 92 n))

meant-first : (is_text : Bool) (c : ℕ) (cs t : List ℕ) → first_meant (json_bytes is_text (c ∷ cs) ++ t) ≡ (c, json_bytes is_text cs ++ t)
meant-first is_text c cs t =
    ap first_meant (append_assoc (json_byte is_text c) (json_bytes is_text cs) t) ∙ meant-byte is_text c (json_bytes is_text cs ++ t)

-- Lemma: the bytes of a string begin with no quotation mark.
no-quote : (is_text : Bool) (c : ℕ) (cs t u : List ℕ) → 34 ∷ t ≡ json_bytes is_text (c ∷ cs) ++ u → ⊥
no-quote is_text c cs t u e =
    let pair : ◌≡◌ {A = ℕ × List ℕ} (34, t) (c, json_bytes is_text cs ++ u) = ap first_meant e ∙ meant-first is_text c cs u in
    let first : 34 ∷ t ≡ (json_byte is_text 34 ++ json_bytes is_text cs) ++ u =
    subst (λ d. 34 ∷ t ≡ (json_byte is_text d ++ json_bytes is_text cs) ++ u) (sym (ap (λ p. p.0) pair)) e in
    let no : ◌≡◌ {A = ℕ} 34 92 = cc in omega arith

-- Lemma: two splits of a text after the bytes of a string are the same.
split : (v w : Bool) (x y t u : List ℕ) → json_bytes v x ++ 34 ∷ t ≡ json_bytes w y ++ 34 ∷ u → (x ≡ y) × (t ≡ u)
split v w [] [] t u e = (refl, cc)
split v w [] (c ∷ y) t u e = absurd (no-quote w c y t (34 ∷ u) e)
split v w (c ∷ x) [] t u e = absurd (no-quote v c x u (34 ∷ t) (sym e))
split v w (c ∷ x) (d ∷ y) t u e =
    let pair : ◌≡◌ {A = ℕ × List ℕ} (c, json_bytes v x ++ 34 ∷ t) (d, json_bytes w y ++ 34 ∷ u) =
    sym (meant-first v c x (34 ∷ t)) ∙ ap first_meant e ∙ meant-first w d y (34 ∷ u) in
    let heads : c ≡ d = ap (λ p. p.0) pair in
    let rest = split v w x y t u (ap (λ p. p.1) pair) in
    let fronts : x ≡ y = rest.0 in
    (cc, rest.1)

-- ---- members

-- Lemma: two members with the same name have the same value.
same-value : (before x y t u : List ℕ) → member before (Some x) ++ t ≡ member before (Some y) ++ u → (x ≡ y) × (t ≡ u)
same-value before x y t u e =
    let strings = append_cancel_left before (json_string x ++ t) (json_string y ++ u)
    (sym (append_assoc before (json_string x) t) ∙ e ∙ append_assoc before (json_string y) u) in
    let tails : (json_bytes (is_utf8 x) x ++ 34 ∷ []) ++ t ≡ (json_bytes (is_utf8 y) y ++ 34 ∷ []) ++ u = cc in
    split (is_utf8 x) (is_utf8 y) x y t u
    (sym (append_assoc (json_bytes (is_utf8 x) x) (34 ∷ []) t) ∙ tails ∙ append_assoc (json_bytes (is_utf8 y) y) (34 ∷ []) u)

abbrev second : List ℕ → ℕ
second (c ∷ d ∷ cs) = d
second cs = 0

-- The first letter of the name of a member, after its comma and quotation mark.
abbrev key_of : List ℕ → ℕ
key_of [] = 0
key_of (c ∷ cs) = if nat_eq c 44 then second cs else 0

-- Lemma: two members are the same if the texts after them begin with no member of this name.
same-member : (before : List ℕ) (k : ℕ) (o p : Option (List ℕ)) (t u : List ℕ) → ((rest : List ℕ) → key_of (before ++ rest) ≡ k)
    → key_of t ≢ k → key_of u ≢ k → member before o ++ t ≡ member before p ++ u → (o ≡ p) × (t ≡ u)
same-member before k None None t u key n n' e = (refl, e)
same-member before k None (Some y) t u key n n' e =
    absurd (n (ap key_of (e ∙ append_assoc before (json_string y) u) ∙ key (json_string y ++ u)))
same-member before k (Some x) None t u key n n' e =
    absurd (n' (ap key_of (sym e ∙ append_assoc before (json_string x) t) ∙ key (json_string x ++ t)))
same-member before k (Some x) (Some y) t u key n n' e =
    let same = same-value before x y t u e in (ap Some same.0, same.1)

-- ---- objects

-- The members from the actual digest on, from the listed one on, and all, with these bytes after them.
abbrev from_actual : Bool → Remark → List ℕ → List ℕ
from_actual l r end = member (codes ",\"actual\":") (digits_in l (told_actual r)) ++ end

abbrev from_listed : Bool → Remark → List ℕ → List ℕ
from_listed l r end = member (codes ",\"listed\":") (digits_in l (told_listed r)) ++ from_actual l r end

abbrev object : Bool → Remark → List ℕ → List ℕ
object l r end =
    member (codes "{\"name\":") (Some (told_name r)) ++ (member (codes ",\"state\":") (Some (told_state r)) ++ (member (codes ",\"from\":") (told_other r) ++ from_listed l r end))

outward : (a b c d e f : List ℕ) → a ++ b ++ c ++ d ++ e ++ f ≡ a ++ (b ++ (c ++ (d ++ (e ++ f))))
outward a b c d e f = simp append_assoc refl

inward : (a b c d e f t : List ℕ) → (a ++ (b ++ (c ++ (d ++ (e ++ f))))) ++ t ≡ a ++ (b ++ (c ++ (d ++ (e ++ (f ++ t)))))
inward a b c d e f t = simp append_assoc refl

whole : (l : Bool) (r : Remark) → remark_json l r ≡ object l r (codes "}\n")
whole l r =
    outward (member (codes "{\"name\":") (Some (told_name r))) (member (codes ",\"state\":") (Some (told_state r))) (member (codes ",\"from\":") (told_other r))
    (member (codes ",\"listed\":") (digits_in l (told_listed r))) (member (codes ",\"actual\":") (digits_in l (told_actual r))) (codes "}\n")

object-append : (l : Bool) (r : Remark) (end behind : List ℕ) → object l r end ++ behind ≡ object l r (end ++ behind)
object-append l r end behind =
    inward (member (codes "{\"name\":") (Some (told_name r))) (member (codes ",\"state\":") (Some (told_state r))) (member (codes ",\"from\":") (told_other r))
    (member (codes ",\"listed\":") (digits_in l (told_listed r))) (member (codes ",\"actual\":") (digits_in l (told_actual r))) end behind

on-object : (l : Bool) (r : Remark) (behind : List ℕ) → remark_json l r ++ behind ≡ object l r (codes "}\n" ++ behind)
on-object l r behind = ap (λ x. x ++ behind) (whole l r) ∙ object-append l r (codes "}\n") behind

actual-key : (k : ℕ) → 97 < k → (o : Option (List ℕ)) (end : List ℕ) → key_of (member (codes ",\"actual\":") o ++ 125 ∷ end) ≢ k
actual-key k above None end = λ (e : 0 ≡ k). omega arith
actual-key k above (Some x) end = λ (e : 97 ≡ k). omega arith

listed-key : (o p : Option (List ℕ)) (end : List ℕ) → key_of (member (codes ",\"listed\":") o ++ (member (codes ",\"actual\":") p ++ 125 ∷ end)) ≢ 102
listed-key None p end = actual-key 102 (omega arith) p end
listed-key (Some x) p end = λ (e : ◌≡◌ {A = ℕ} 108 102). omega arith

pub objects_differ : ObjectsDiffer
objects_differ l a b behind behind' e =
    let name = same-value (codes "{\"name\":") (told_name a) (told_name b) _ _ (sym (on-object l a behind) ∙ e ∙ on-object l b behind') in
    let state = same-value (codes ",\"state\":") (told_state a) (told_state b) _ _ name.1 in
    let from = same-member (codes ",\"from\":") 102 (told_other a) (told_other b) _ _ (λ rest. refl)
    (listed-key (digits_in l (told_listed a)) (digits_in l (told_actual a)) (10 ∷ behind))
    (listed-key (digits_in l (told_listed b)) (digits_in l (told_actual b)) (10 ∷ behind')) state.1 in
    let listed = same-member (codes ",\"listed\":") 108 (digits_in l (told_listed a)) (digits_in l (told_listed b)) _ _ (λ rest. refl)
    (actual-key 108 (omega arith) (digits_in l (told_actual a)) (10 ∷ behind))
    (actual-key 108 (omega arith) (digits_in l (told_actual b)) (10 ∷ behind')) from.1 in
    let actual = same-member (codes ",\"actual\":") 97 (digits_in l (told_actual a)) (digits_in l (told_actual b)) (125 ∷ 10 ∷ behind) (125 ∷ 10 ∷ behind')
    (λ rest. refl) (λ (is : ◌≡◌ {A = ℕ} 0 97). omega arith) (λ (is : ◌≡◌ {A = ℕ} 0 97). omega arith) listed.1 in
    let ends : 125 ∷ 10 ∷ behind ≡ 125 ∷ 10 ∷ behind' = actual.1 in
    (name.0, state.0, from.0, listed.0, actual.0, cc)

-- ---- one line

plain-lacks : (bytes : List ℕ) → all_pass (nat_le 32) bytes ≡ true → Lacks 10 bytes
plain-lacks bytes plain = lacks_failing (nat_le 32) 10 bytes refl plain

byte-lacks : (is_text : Bool) (c : ℕ) → Lacks 10 (json_byte is_text c)
byte-lacks is_text c =
    let code = λ (before : List ℕ) (d : ℕ) (is : all_pass (nat_le 32) before ≡ true).
    lacks_both 10 before (hex_digits 2 d) (plain-lacks before is) (lacks_hex 10 2 d (inl (omega arith))) in
    each-byte is_text c (λ d bytes. Lacks 10 bytes) (plain-lacks (codes "\\\"") refl) (plain-lacks (codes "\\\\") refl) (plain-lacks (codes "\\b") refl)
    (plain-lacks (codes "\\t") refl) (plain-lacks (codes "\\n") refl) (plain-lacks (codes "\\f") refl) (plain-lacks (codes "\\r") refl)
    (λ d small. (code (codes "\\u00") d refl, code (codes "\\udc") d refl)) (λ d _ n. (n, tt))

bytes-lack : (is_text : Bool) (bytes : List ℕ) → Lacks 10 (json_bytes is_text bytes)
bytes-lack is_text [] = tt
bytes-lack is_text (c ∷ cs) = lacks_both 10 (json_byte is_text c) (json_bytes is_text cs) (byte-lacks is_text c) (bytes-lack is_text cs)

member-lacks : (before : List ℕ) (o : Option (List ℕ)) → all_pass (nat_le 32) before ≡ true → Lacks 10 (member before o)
member-lacks before None is = tt
member-lacks before (Some x) is =
    let quote = plain-lacks (34 ∷ []) refl in
    lacks_both 10 before (json_string x) (plain-lacks before is) (quote.0, lacks_both 10 (json_bytes (is_utf8 x) x) (34 ∷ []) (bytes-lack (is_utf8 x) x) quote)

member-then : (before : List ℕ) (o : Option (List ℕ)) (rest : List ℕ) → all_pass (nat_le 32) before ≡ true → Lacks 10 rest → Lacks 10 (member before o ++ rest)
member-then before o rest is lacks = lacks_both 10 (member before o) rest (member-lacks before o is) lacks

pub object_is_one_line : ObjectIsOneLine
object_is_one_line l r =
    let actual = member-then (codes ",\"actual\":") (digits_in l (told_actual r)) (codes "}") refl (plain-lacks (codes "}") refl) in
    let listed = member-then (codes ",\"listed\":") (digits_in l (told_listed r)) (from_actual l r (codes "}")) refl actual in
    let behind = member (codes ",\"from\":") (told_other r) ++ from_listed l r (codes "}") in
    let from = member-then (codes ",\"from\":") (told_other r) (from_listed l r (codes "}")) refl listed in
    let state = member-then (codes ",\"state\":") (Some (told_state r)) behind refl from in (
      object l r (codes "}"),
      whole l r ∙ sym (object-append l r (codes "}") (10 ∷ [])),
      member-then (codes "{\"name\":") (Some (told_name r)) (member (codes ",\"state\":") (Some (told_state r)) ++ behind) refl state,
    )
