-- Proves that printed lines are accepted.
use Rattle.xxhsum_line.proofs.Prelude.{◌≡◌, ◌≢◌, ℕ, ◌<◌, ◌+◌, ◌*◌, ◌^◌, Bool, true, false, List, [], ◌∷◌, ◌++◌, length, Some, inl, inr, refl, sym, ap, subst, ◌∙◌, arith, length-append, ◌≤◌, nat_lt, drop, if◌then◌else◌, append_assoc}
use Rattle.xxhsum_line.proofs.Prelude.{cond-false, ne_eqb, same_from_push, nat_tests, digits_of, Kind, X32, X64, X3_64, X3_128, value_shown, Says, SaysPlain, TextSays, is_comment, value_meant, body_of, escaped, is_escaped, mark_of}
use Rattle.xxhsum_line.proofs.Prelude.{name_meant, needs_escape, unescaped, Lacks, up_to_nul, without_return, formed, full_tag, line_of, plain_text, prefix_of, shown, tagged_text, text_of, without_prefix, has_prefix, is_little_tag, kind_of_count}
use Rattle.xxhsum_line.proofs.Prelude.{kind_of_digits, kind_of_tag}
use Rattle.xxhsum_line.specs.Laws.{DigestsDiffer, MessageIsOneLine, PlainTextsStay, PrintedIsAccepted, PrintedIsNoComment, PrintedIsOneLine}
use Rattle.xxhsum_line.specs.declared.printed.Shape.{Shape}
use Rattle.xxhsum_line.proofs.EntryFacts.{text_says_same}
use Rattle.xxhsum_line.proofs.EscapeFacts.{escape_is_undone, escaped_lacks_line_feed, escaped_length, escaped_lacks_nul, escaped_lacks_return, plain_names_stay}
use Rattle.xxhsum_line.proofs.LackFacts.{all_pass, lacks_both, lacks_failing, up_to_nul_whole, without_return_whole}
use Rattle.xxhsum_line.proofs.ShownFacts.{lacks_shown, length-shown, value_shown-shown}

-- True if each byte is above the space.
abbrev above_space : List ℕ → Bool
above_space l = all_pass (nat_lt 32) l

lacks_up_to_space : (b : ℕ) (l : List ℕ) → b ≤ 32 → above_space l ≡ true → Lacks b l
lacks_up_to_space b l low h = lacks_failing (nat_lt 32) b l (grind (arith, nat_tests, low)) h

-- Lemma: the bytes of a tag are above the space. The tag determines its algorithm and byte order.
tag_says : (kind : Kind) (is_little : Bool)
    → (above_space (full_tag kind is_little) ≡ true) × (kind_of_tag (full_tag kind is_little) ≡ kind) × (is_little_tag (full_tag kind is_little) ≡ is_little)
tag_says X32 true = (refl, refl, refl)
tag_says X32 false = (refl, refl, refl)
tag_says X64 true = (refl, refl, refl)
tag_says X64 false = (refl, refl, refl)
tag_says X3_64 true = (refl, refl, refl)
tag_says X3_64 false = (refl, refl, refl)
tag_says X3_128 true = (refl, refl, refl)
tag_says X3_128 false = (refl, refl, refl)

tag_lacks : (b : ℕ) (kind : Kind) (is_little : Bool) → b ≤ 32 → Lacks b (full_tag kind is_little)
tag_lacks b kind is_little low = lacks_up_to_space b (full_tag kind is_little) low (tag_says kind is_little).0

prefix_lacks : (b : ℕ) (kind : Kind) → b ≤ 32 → Lacks b (prefix_of kind)
prefix_lacks b X32 low = tt
prefix_lacks b X64 low = tt
prefix_lacks b X3_64 low = lacks_up_to_space b (prefix_of X3_64) low refl
prefix_lacks b X3_128 low = tt

-- ---- bytes outside of tags, digits and separators

lacks_plain : (b : ℕ) (kind : Kind) (is_little : Bool) (value : ℕ) (name : List ℕ) → b < 32 → Lacks b name
    → Lacks b (plain_text kind is_little value name)
lacks_plain b kind is_little value name low h =
    let small : b ≤ 32 = omega arith in
    let digit : b < 48 = omega arith in
    let space : 32 ≢ b = λ e. omega arith in
    let rest : Lacks b (shown kind is_little value ++ 32 ∷ 32 ∷ name) =
    lacks_both b (shown kind is_little value) (32 ∷ 32 ∷ name) (lacks_shown b kind is_little value (inl digit)) (space, (space, h)) in
    lacks_both b (prefix_of kind) (shown kind is_little value ++ 32 ∷ 32 ∷ name) (prefix_lacks b kind small) rest

lacks_tagged : (b : ℕ) (kind : Kind) (is_little : Bool) (value : ℕ) (name : List ℕ) → b < 32 → Lacks b name
    → Lacks b (tagged_text kind is_little value name)
lacks_tagged b kind is_little value name low h =
    let small : b ≤ 32 = omega arith in
    let digit : b < 48 = omega arith in
    let space : 32 ≢ b = λ e. omega arith in
    let opening : 40 ≢ b = λ e. omega arith in
    let closing : 41 ≢ b = λ e. omega arith in
    let equals : 61 ≢ b = λ e. omega arith in
    let digits : Lacks b (shown kind is_little value) = lacks_shown b kind is_little value (inl digit) in
    let end : Lacks b (name ++ 41 ∷ 32 ∷ 61 ∷ 32 ∷ shown kind is_little value) =
    lacks_both b name (41 ∷ 32 ∷ 61 ∷ 32 ∷ shown kind is_little value) h (closing, (space, (equals, (space, digits)))) in
    lacks_both b (full_tag kind is_little) (32 ∷ 40 ∷ (name ++ 41 ∷ 32 ∷ 61 ∷ 32 ∷ shown kind is_little value)) (tag_lacks b kind is_little small) (space, (opening, end))

either_lacks : (b : ℕ) (kind : Kind) (is_little is_tagged : Bool) (value : ℕ) (name : List ℕ) → b < 32 → Lacks b name
    → Lacks b (if is_tagged then tagged_text kind is_little value name else plain_text kind is_little value name)
either_lacks b kind is_little true value name low h = lacks_tagged b kind is_little value name low h
either_lacks b kind is_little false value name low h = lacks_plain b kind is_little value name low h

lacks_formed : (b : ℕ) (kind : Kind) (shape : Shape) (value : ℕ) (name : List ℕ) → b < 32 → Lacks b name
    → Lacks b (formed kind shape value name)
lacks_formed b kind shape value name low h = either_lacks b kind shape.is_little shape.is_tagged value name low h

marked_lacks : (b : ℕ) (is_marked : Bool) → b < 32 → Lacks b (if is_marked then 92 ∷ [] else [])
marked_lacks b true low = let backslash : 92 ≢ b = λ e. omega arith in (backslash, tt)
marked_lacks b false low = tt

pub printed_is_one_line : PrintedIsOneLine
printed_is_one_line kind shape value name =
    let low : 10 < 32 = omega arith in
    lacks_both 10 (mark_of name) (formed kind shape value (escaped name)) (marked_lacks 10 (needs_escape name) low)
    (lacks_formed 10 kind shape value (escaped name) low (escaped_lacks_line_feed name))

pub message_is_one_line : MessageIsOneLine
message_is_one_line text =
    let low : 10 < 32 = omega arith in
    (mark_of text ++ escaped text, refl, lacks_both 10 (mark_of text) (escaped text) (marked_lacks 10 (needs_escape text) low) (escaped_lacks_line_feed text))

pub plain_texts_stay : PlainTextsStay
plain_texts_stay text plain = rw (plain, plain_names_stay text plain) refl

-- ---- the beginning of a line

-- A line that is neither a comment nor escaped.
abbrev IsOrdinary : List ℕ → Type 0
IsOrdinary line = (is_comment line ≡ false) × (is_escaped line ≡ false)

begins_ordinary : (l r : List ℕ) → 0 < length l → Lacks 35 l → Lacks 32 l → Lacks 9 l → Lacks 92 l → IsOrdinary (l ++ r)
begins_ordinary [] r some hash space tab backslash = absurd (omega arith)
begins_ordinary (c ∷ l) r some hash space tab backslash = (
  ne_eqb c 35 hash.0,
  rw (ne_eqb c 32 space.0, ne_eqb c 9 tab.0) (ne_eqb c 92 backslash.0),
)

digits_ordinary : (kind : Kind) (is_little : Bool) (value : ℕ) (r : List ℕ) → 0 < digits_of kind → IsOrdinary (shown kind is_little value ++ r)
digits_ordinary kind is_little value r some =
    let digits = shown kind is_little value in
    let hash : 35 < 48 = omega arith in
    let space : 32 < 48 = omega arith in
    let tab : 9 < 48 = omega arith in
    let over : 57 < 92 = omega arith in
    let under : 92 < 97 = omega arith in
    begins_ordinary digits r (subst (λ n. 0 < n) (sym (length-shown kind is_little value)) some) (lacks_shown 35 kind is_little value (inl hash))
    (lacks_shown 32 kind is_little value (inl space)) (lacks_shown 9 kind is_little value (inl tab)) (lacks_shown 92 kind is_little value (inr (over, under)))

plain_ordinary : (kind : Kind) (is_little : Bool) (value : ℕ) (name : List ℕ) → IsOrdinary (plain_text kind is_little value name)
plain_ordinary X32 is_little value name = digits_ordinary X32 is_little value (32 ∷ 32 ∷ name) (omega arith)
plain_ordinary X64 is_little value name = digits_ordinary X64 is_little value (32 ∷ 32 ∷ name) (omega arith)
plain_ordinary X3_64 is_little value name = (refl, refl)
plain_ordinary X3_128 is_little value name = digits_ordinary X3_128 is_little value (32 ∷ 32 ∷ name) (omega arith)

tag_ordinary : (kind : Kind) (is_little : Bool) (r : List ℕ) → IsOrdinary (full_tag kind is_little ++ r)
tag_ordinary X32 true r = (refl, refl)
tag_ordinary X32 false r = (refl, refl)
tag_ordinary X64 true r = (refl, refl)
tag_ordinary X64 false r = (refl, refl)
tag_ordinary X3_64 true r = (refl, refl)
tag_ordinary X3_64 false r = (refl, refl)
tag_ordinary X3_128 true r = (refl, refl)
tag_ordinary X3_128 false r = (refl, refl)

either_ordinary : (kind : Kind) (is_little is_tagged : Bool) (value : ℕ) (name : List ℕ)
    → IsOrdinary (if is_tagged then tagged_text kind is_little value name else plain_text kind is_little value name)
either_ordinary kind is_little true value name = tag_ordinary kind is_little (32 ∷ 40 ∷ (name ++ 41 ∷ 32 ∷ 61 ∷ 32 ∷ shown kind is_little value))
either_ordinary kind is_little false value name = plain_ordinary kind is_little value name

formed_ordinary : (kind : Kind) (shape : Shape) (value : ℕ) (name : List ℕ) → IsOrdinary (formed kind shape value name)
formed_ordinary kind shape value name = either_ordinary kind shape.is_little shape.is_tagged value name

marked_no_comment : (is_marked : Bool) (text : List ℕ) → is_comment text ≡ false → is_comment ((if is_marked then 92 ∷ [] else []) ++ text) ≡ false
marked_no_comment true text h = refl
marked_no_comment false text h = h

pub printed_is_no_comment : PrintedIsNoComment
printed_is_no_comment kind shape value name =
    marked_no_comment (needs_escape name) (formed kind shape value (escaped name)) (formed_ordinary kind shape value (escaped name)).0

-- ---- the meaning of a printed text

no_prefix : (digits : List ℕ) → Lacks 88 digits → has_prefix digits ≡ false
no_prefix [] h = refl
no_prefix (c ∷ digits) h = rw (ne_eqb 88 c (λ e. h.0 (sym e))) refl

shown_no_prefix : (kind : Kind) (is_little : Bool) (value : ℕ) → has_prefix (shown kind is_little value) ≡ false
shown_no_prefix kind is_little value =
    let over : 57 < 88 = omega arith in
    let under : 88 < 97 = omega arith in
    no_prefix (shown kind is_little value) (lacks_shown 88 kind is_little value (inr (over, under)))

shown_without_prefix : (kind : Kind) (is_little : Bool) (value : ℕ) → without_prefix kind (shown kind is_little value) ≡ shown kind is_little value
shown_without_prefix X32 is_little value = refl
shown_without_prefix X64 is_little value = refl
shown_without_prefix X3_64 is_little value =
    let digits = shown X3_64 is_little value in
    cond-false (has_prefix digits) (drop 5 digits) digits (shown_no_prefix X3_64 is_little value)
shown_without_prefix X3_128 is_little value = refl

-- Lemma: a plain text without a prefix has its entry if the number of digits determines the algorithm.
counted_says : (kind : Kind) (is_little : Bool) (value : ℕ) (name : List ℕ) → kind_of_count (digits_of kind) ≡ Some kind
    → value < 16 ^ digits_of kind → SaysPlain is_little (shown kind is_little value ++ 32 ∷ 32 ∷ name) kind value name
counted_says kind is_little value name is_plain fits =
    let digits = shown kind is_little value in
    let below : 32 < 48 = omega arith in
    let mark : ◌≢◌ {A = ℕ} 32 40 = λ (e : ◌≡◌ {A = ℕ} 32 40). omega arith in
    let counted : kind_of_digits digits ≡ Some kind =
    cond-false (has_prefix digits) (Some X3_64) (kind_of_count (length digits)) (shown_no_prefix kind is_little value)
    ∙ ap kind_of_count (length-shown kind is_little value) ∙ is_plain in
    let means : value_meant kind is_little digits ≡ Some value =
    ap (value_shown kind is_little) (shown_without_prefix kind is_little value) ∙ value_shown-shown kind is_little value fits in
    (digits, (32, refl, lacks_shown 32 kind is_little value (inl below), mark), counted, means)

-- Lemma: a plain text with the prefix of XXH3 64-bit has its entry.
prefixed_says : (is_little : Bool) (value : ℕ) (name : List ℕ) → value < 16 ^ digits_of X3_64
    → SaysPlain is_little (plain_text X3_64 is_little value name) X3_64 value name
prefixed_says is_little value name fits =
    let digits = prefix_of X3_64 ++ shown X3_64 is_little value in
    let low : 32 ≤ 32 = omega arith in
    let below : 32 < 48 = omega arith in
    let mark : ◌≢◌ {A = ℕ} 32 40 = λ (e : ◌≡◌ {A = ℕ} 32 40). omega arith in
    let lacks = lacks_both 32 (prefix_of X3_64) (shown X3_64 is_little value) (prefix_lacks 32 X3_64 low) (lacks_shown 32 X3_64 is_little value (inl below)) in
    (digits, (32, refl, lacks, mark), refl, value_shown-shown X3_64 is_little value fits)

plain_says : (kind : Kind) (is_little : Bool) (value : ℕ) (name : List ℕ) → value < 16 ^ digits_of kind
    → SaysPlain is_little (plain_text kind is_little value name) kind value name
plain_says X32 is_little value name fits = counted_says X32 is_little value name refl fits
plain_says X64 is_little value name fits = counted_says X64 is_little value name refl fits
plain_says X3_64 is_little value name fits = prefixed_says is_little value name fits
plain_says X3_128 is_little value name fits = counted_says X3_128 is_little value name refl fits

pub digests_differ : DigestsDiffer
digests_differ is_little kind kind' value value' fits fits' same =
    let spaces : List ℕ = 32 ∷ 32 ∷ [] in
    let lines : plain_text kind is_little value [] ≡ plain_text kind' is_little value' [] =
    sym (append_assoc (prefix_of kind) (shown kind is_little value) spaces) ∙ ap (λ t. t ++ spaces) same
    ∙ append_assoc (prefix_of kind') (shown kind' is_little value') spaces in
    let says = subst (λ t. SaysPlain is_little t kind value []) lines (plain_says kind is_little value [] fits) in
    let both = text_says_same is_little _ kind value [] kind' value' [] (inl says) (inl (plain_says kind' is_little value' [] fits')) in
    (both.0, both.1)

tagged_says : (kind : Kind) (is_little : Bool) (value : ℕ) (name : List ℕ) → value < 16 ^ digits_of kind
    → TextSays is_little (tagged_text kind is_little value name) kind value name
tagged_says kind is_little value name fits =
    let tag = full_tag kind is_little in
    let digits = shown kind is_little value in
    let below : 32 < 48 = omega arith in
    let means : value_meant kind (is_little_tag tag) digits ≡ Some value =
    ap (λ b. value_meant kind b digits) (tag_says kind is_little).2
    ∙ ap (value_shown kind is_little) (shown_without_prefix kind is_little value) ∙ value_shown-shown kind is_little value fits in
    inr (
      tag,
      digits,
      (refl, tag_lacks 32 kind is_little (omega arith), lacks_shown 32 kind is_little value (inl below)),
      (tag_says kind is_little).1,
      means,
    )

either_says : (kind : Kind) (is_little is_tagged : Bool) (value : ℕ) (name : List ℕ) → value < 16 ^ digits_of kind
    → TextSays is_little (if is_tagged then tagged_text kind is_little value name else plain_text kind is_little value name) kind value name
either_says kind is_little true value name fits = tagged_says kind is_little value name fits
either_says kind is_little false value name fits = inl (plain_says kind is_little value name fits)

formed_says : (kind : Kind) (shape : Shape) (value : ℕ) (name : List ℕ) → value < 16 ^ digits_of kind
    → TextSays shape.is_little (formed kind shape value name) kind value name
formed_says kind shape value name fits = either_says kind shape.is_little shape.is_tagged value name fits

-- ---- the meaning of a printed line

-- Lemma: a text without NUL and carriage return is read in full.
all_stays : (text : List ℕ) → Lacks 0 text → Lacks 13 text → up_to_nul (without_return text) ≡ text
all_stays text lacks lacks_return = ap up_to_nul (without_return_whole text lacks_return) ∙ up_to_nul_whole text lacks

ordinary_says : (is_little : Bool) (text : List ℕ) (kind : Kind) (value : ℕ) (name : List ℕ) → IsOrdinary text → Lacks 0 text → Lacks 13 text
    → TextSays is_little text kind value name → Says is_little text kind value name
ordinary_says is_little text kind value name ordinary lacks lacks_return says =
    let whole = all_stays text lacks lacks_return in
    let body : body_of text ≡ text = cond-false (is_escaped text) (drop 1 text) text ordinary.1 in
    let means : name_meant (is_escaped text) name ≡ Some name = cond-false (is_escaped text) (unescaped name) (Some name) ordinary.1 in (
      ordinary.0,
      name,
      subst (λ t. TextSays is_little (body_of t) kind value name) (sym whole) (subst (λ t. TextSays is_little t kind value name) (sym body) says),
      subst (λ t. name_meant (is_escaped t) name ≡ Some name) (sym whole) means,
    )

escaped_says : (is_little : Bool) (text : List ℕ) (kind : Kind) (value : ℕ) (shown_name name : List ℕ) → Lacks 0 (92 ∷ text) → Lacks 13 (92 ∷ text)
    → TextSays is_little text kind value shown_name → unescaped shown_name ≡ Some name → Says is_little (92 ∷ text) kind value name
escaped_says is_little text kind value shown_name name lacks lacks_return says means =
    let whole = all_stays (92 ∷ text) lacks lacks_return in (
      refl,
      shown_name,
      subst (λ t. TextSays is_little (body_of t) kind value shown_name) (sym whole) says,
      subst (λ t. name_meant (is_escaped t) shown_name ≡ Some name) (sym whole) means,
    )

marked_says : (is_marked : Bool) (is_little : Bool) (text : List ℕ) (kind : Kind) (value : ℕ) (name : List ℕ) → IsOrdinary text → Lacks 0 text → Lacks 13 text
    → (is_marked ≡ false → escaped name ≡ name) → TextSays is_little text kind value (escaped name)
    → Says is_little ((if is_marked then 92 ∷ [] else []) ++ text) kind value name
marked_says true is_little text kind value name ordinary lacks lacks_return stays says =
    let backslash : ◌≢◌ {A = ℕ} 92 0 = λ (e : ◌≡◌ {A = ℕ} 92 0). omega arith in
    let no_return : ◌≢◌ {A = ℕ} 92 13 = λ (e : ◌≡◌ {A = ℕ} 92 13). omega arith in
    escaped_says is_little text kind value (escaped name) name (backslash, lacks) (no_return, lacks_return) says (escape_is_undone name)
marked_says false is_little text kind value name ordinary lacks lacks_return stays says =
    ordinary_says is_little text kind value name ordinary lacks lacks_return (subst (TextSays is_little text kind value) (stays refl) says)

pub printed_is_accepted : PrintedIsAccepted
printed_is_accepted kind shape value name fits h =
    let low : 0 < 32 = omega arith in
    let low' : 13 < 32 = omega arith in
    marked_says (needs_escape name) shape.is_little (formed kind shape value (escaped name)) kind value name (formed_ordinary kind shape value (escaped name))
    (lacks_formed 0 kind shape value (escaped name) low (escaped_lacks_nul name h))
    (lacks_formed 13 kind shape value (escaped name) low' (escaped_lacks_return name)) (plain_names_stay name) (formed_says kind shape value (escaped name) fits)

-- Lemma: a printed line without its newline has the entry that it was made of.
pub text_is_accepted : (kind : Kind) (shape : Shape) (value : ℕ) (name text : List ℕ) → line_of kind shape value name ≡ text ++ 10 ∷ []
    → value < 16 ^ digits_of kind → Lacks 0 name → Says shape.is_little text kind value name
text_is_accepted kind shape value name text e fits h =
    let same = same_from_push (text_of kind shape value name) text 10 10 e in
    subst (λ t. Says shape.is_little t kind value name) same.0 (printed_is_accepted kind shape value name fits h)

-- ---- the length of a line

tag_length : (kind : Kind) (is_little : Bool) → length (full_tag kind is_little) ≤ 9
tag_length X32 true = omega arith
tag_length X32 false = omega arith
tag_length X64 true = omega arith
tag_length X64 false = omega arith
tag_length X3_64 true = omega arith
tag_length X3_64 false = omega arith
tag_length X3_128 true = omega arith
tag_length X3_128 false = omega arith

prefix_length : (kind : Kind) → length (prefix_of kind) ≤ 5
prefix_length X32 = omega arith
prefix_length X64 = omega arith
prefix_length X3_64 = omega arith
prefix_length X3_128 = omega arith

digits_at_most : (kind : Kind) → digits_of kind ≤ 32
digits_at_most X32 = omega arith
digits_at_most X64 = omega arith
digits_at_most X3_64 = omega arith
digits_at_most X3_128 = omega arith

either_length : (kind : Kind) (is_little is_tagged : Bool) (value : ℕ) (name : List ℕ)
    → length (if is_tagged then tagged_text kind is_little value name else plain_text kind is_little value name) ≤ length name + 47
either_length kind is_little true value name =
    let digits = shown kind is_little value in
    let all : length (tagged_text kind is_little value name) ≡ length (full_tag kind is_little) + length (32 ∷ 40 ∷ (name ++ 41 ∷ 32 ∷ 61 ∷ 32 ∷ digits)) =
    length-append (full_tag kind is_little) (32 ∷ 40 ∷ (name ++ 41 ∷ 32 ∷ 61 ∷ 32 ∷ digits)) in
    let end : length (name ++ 41 ∷ 32 ∷ 61 ∷ 32 ∷ digits) ≡ length name + length (41 ∷ 32 ∷ 61 ∷ 32 ∷ digits) = length-append name (41 ∷ 32 ∷ 61 ∷ 32 ∷ digits) in
    omega (arith, all, end, tag_length kind is_little, length-shown kind is_little value, digits_at_most kind)
either_length kind is_little false value name =
    let digits = shown kind is_little value in
    let all : length (plain_text kind is_little value name) ≡ length (prefix_of kind) + length (digits ++ 32 ∷ 32 ∷ name) =
    length-append (prefix_of kind) (digits ++ 32 ∷ 32 ∷ name) in
    let end : length (digits ++ 32 ∷ 32 ∷ name) ≡ length digits + length (32 ∷ 32 ∷ name) = length-append digits (32 ∷ 32 ∷ name) in
    omega (arith, all, end, prefix_length kind, length-shown kind is_little value, digits_at_most kind)

marked_length : (is_marked : Bool) (text : List ℕ) → length ((if is_marked then 92 ∷ [] else []) ++ text) ≤ length text + 1
marked_length true text = omega arith
marked_length false text = omega arith

-- Lemma: a printed line has at most two bytes for each byte of its name, and 48 others.
pub printed_length : (kind : Kind) (shape : Shape) (value : ℕ) (name : List ℕ) → length (text_of kind shape value name) ≤ 2 * length name + 48
printed_length kind shape value name =
    let marked : length (text_of kind shape value name) ≤ length (formed kind shape value (escaped name)) + 1 =
    marked_length (needs_escape name) (formed kind shape value (escaped name)) in
    let form : length (formed kind shape value (escaped name)) ≤ length (escaped name) + 47 =
    either_length kind shape.is_little shape.is_tagged value (escaped name) in
    omega (arith, marked, form, escaped_length name)
