-- Proves that lists, duplicate names and audits are written as whole lines, and audits as whole records with `-z`.
use Rattle.std.proofs.Common.{◌≡◌, ◌≢◌, ℕ, zero, suc, ◌+◌, ◌/◌, ◌%◌, ◌==◌, Bool, true, false, List, [], ◌∷◌, ◌++◌, Option, Some, None, inl, inr, refl, sym, ap, ◌∙◌, subst, append-nil, append_assoc, arith, codes, decimal, length, nat_eq, nat_lt, if◌then◌else◌}
use Rattle.std.specs.Fmt.{digit_glyph, digits, digits_onto}
use Rattle.std.proofs.lemmas.List.Folds.{concat-append}
use Rattle.xxhsum_app.specs.Names.{ListNone}
use Rattle.xxhsum_app.specs.ReadList.{IsFault, ListSaysNothing, SourceSaysNothing}
use Rattle.xxhsum_app.specs.Report.{class_text, counts_text, formed_text, has_objects, is_same, remarks_of, report_text, shown_text, shown_texts}
use Rattle.xxhsum_app.specs.Texts.{Breaks, HasNoText, LackText}
use Rattle.xxhsum_audit.proofs.TextFacts.{each-words}
use Rattle.xxhsum_audit.specs.Found.{Changed, Copied, Found, Missing, Moved, New, Same}
use Rattle.xxhsum_audit.specs.Json.{ObjectIsOneLine, remark_json}
use Rattle.xxhsum_audit.specs.Text.{Classed, HasNoNul, OtherLacks, Remark, RemarkIsOneLine, Unreadable, other_record, remark_text, told_name, told_other, told_words}
use Rattle.xxhsum_audit.specs.declared.verdict.Class.{Class}
use Rattle.xxhsum_audit.specs.declared.verdict.Class.TheVariants as Of
use Rattle.xxhsum_line.proofs.LackFacts.{all_pass, lacks_both, lacks_failing}
use Rattle.xxhsum_line.specs.Laws.{IsOneLine, MessageIsOneLine}
use Rattle.xxhsum_line.specs.Parts.{Lacks}
use Rattle.xxhsum_program.specs.CheckList.{Checked, ListOutcome, Unopened, outcome_events}
use Rattle.xxhsum_program.specs.Findings.{Finding}
use Rattle.xxhsum_program.specs.ListEnd.{Endless, FailedRead, ListEnd, TooMany, Whole, report_at}
use Rattle.xxhsum_program.specs.ListMessages.{break_events, count_text, end_events, finding_events, line_message, lines_events, no_line_text, numbered, printed_summary, refusal_message, stop_events, summary_text, too_long_text, unverified_message, unverified_text}
use Rattle.xxhsum_program.specs.Order.{Event, Printed, Reported}
use Rattle.xxhsum_program.specs.Prelude.{AllByRecursion, Files, Input, Options, SourceRules, concat}
use Rattle.xxhsum_program.specs.declared.check.Report.{Report}
use Rattle.xxhsum_program.specs.Report.{has_no_line, is_unverified}
use Rattle.xxhsum_program.specs.Run.{input_name}
use Rattle.std.specs.Prelude.{◌&&◌, ◌||◌, nat_le, not}
use Rattle.std.proofs.Common.{◌<◌}
use Rattle.std.proofs.lemmas.Bool.{and_parts}
use Rattle.std.proofs.lemmas.Bool.Decides.{nat_tests}
use Rattle.xxhsum_theorems.proofs.HeadlineFacts.{findings_are_lines}
use Rattle.xxhsum_theorems.specs.Headline.{IsLine, IsLineAtMost}
use Rattle.xxhsum_theorems.specs.LineLaws.{AreLines, AreRecords, AreWhole, IsListLine, IsListMessage, IsOneRecord, WritesLines}

-- ---- whole lines

one-part : (is_one : List ℕ → Type 0) (bytes : List ℕ) → is_one bytes → AreWhole is_one bytes
one-part is_one bytes is = (bytes ∷ [], (is, tt), sym (append-nil bytes))

no-part : (is_one : List ℕ → Type 0) → AreWhole is_one []
no-part is_one = ([], tt, refl)

a-line : (bytes : List ℕ) → IsOneLine bytes → AreLines bytes
a-line bytes is = one-part IsOneLine bytes is

no-line : AreLines []
no-line = no-part IsOneLine

all-both : {A : Type 0} (holds : A → Type 0) (xs ys : List A) → AllByRecursion holds xs → AllByRecursion holds ys → AllByRecursion holds (xs ++ ys)
all-both holds [] ys all more = more
all-both holds (x ∷ xs) ys all more = (all.0, all-both holds xs ys all.1 more)

parts-both : (is_one : List ℕ → Type 0) (x y : List ℕ) → AreWhole is_one x → AreWhole is_one y → AreWhole is_one (x ++ y)
parts-both is_one x y a b = (
  a.0 ++ b.0,
  all-both is_one a.0 b.0 a.1 b.1,
  ap (λ (l : List ℕ). l ++ y) a.2 ∙ ap (λ (l : List ℕ). concat a.0 ++ l) b.2 ∙ sym (concat-append a.0 b.0),
)

lines-both : (x y : List ℕ) → AreLines x → AreLines y → AreLines (x ++ y)
lines-both x y a b = parts-both IsOneLine x y a b

parts-if : (is_one : List ℕ → Type 0) (test : Bool) (x y : List ℕ) → AreWhole is_one x → AreWhole is_one y → AreWhole is_one (if test then x else y)
parts-if is_one true x y a b = a
parts-if is_one false x y a b = b

lines-if : (test : Bool) (x y : List ℕ) → AreLines x → AreLines y → AreLines (if test then x else y)
lines-if test x y a b = parts-if IsOneLine test x y a b

-- ---- bytes without a control character

-- True if no byte is a control character.
abbrev are_plain : List ℕ → Bool
are_plain bytes = all_pass (nat_le 32) bytes

without : (b : ℕ) (bytes : List ℕ) → b < 32 → are_plain bytes ≡ true → Lacks b bytes
without b bytes low is = lacks_failing (nat_le 32) b bytes (grind (arith, nat_tests, low)) is

-- ---- numbers

glyph-by : (b : ℕ) → b < 32 → (test : Bool) (d : ℕ) → (if test then 48 + d else (if false then 55 + d else 87 + d)) ≢ b
glyph-by b low true d = λ (is : 48 + d ≡ b). omega arith
glyph-by b low false d = λ (is : 87 + d ≡ b). omega arith

lacks-if : (b : ℕ) (test : Bool) (x y : List ℕ) → Lacks b x → Lacks b y → Lacks b (if test then x else y)
lacks-if b true x y l l' = l
lacks-if b false x y l l' = l'

digits-lack : (b : ℕ) → b < 32 → (k n : ℕ) (behind : List ℕ) → Lacks b behind → Lacks b (digits_onto k 10 false n behind)
digits-lack b low zero n behind l = l
digits-lack b low (suc k) n behind l =
    let more : Lacks b (digit_glyph false (n % 10) ∷ behind) = (glyph-by b low (nat_lt (n % 10) 10) (n % 10), l) in
    lacks-if b (n / 10 == 0) (digit_glyph false (n % 10) ∷ behind) (digits_onto k 10 false (n / 10) (digit_glyph false (n % 10) ∷ behind)) more
    (digits-lack b low k (n / 10) (digit_glyph false (n % 10) ∷ behind) more)

decimal-lacks : (b : ℕ) → b < 32 → (n : ℕ) → Lacks b (decimal n)
unfolding digits
decimal-lacks b low n = digits-lack b low 64 n [] tt

-- True if the bytes are some that are no control characters, and a newline.
abbrev ends_line : List ℕ → Bool
ends_line [] = false
ends_line (c ∷ []) = nat_eq c 10
ends_line (c ∷ d ∷ ds) = nat_le 32 c && ends_line (d ∷ ds)

-- Lemma: such bytes are a text without a newline, and a newline.
line-parts : (text : List ℕ) → ends_line text ≡ true → (front : List ℕ) × (text ≡ front ++ 10 ∷ []) × Lacks 10 front
line-parts [] is = cc
line-parts (c ∷ []) is = let last : c ≡ 10 = grind (arith, nat_tests, is) in ([], ap (λ d. d ∷ []) last, tt)
line-parts (c ∷ d ∷ ds) is =
    let both = and_parts (nat_le 32 c) (ends_line (d ∷ ds)) is in
    let rest = line-parts (d ∷ ds) both.1 in
    (c ∷ rest.0, ap (λ (l : List ℕ). c ∷ l) rest.1, ((λ e. let no : ⊥ = grind (arith, nat_tests, both.0, e) in no), rest.2))

-- Lemma: a number with such a text behind it is one line.
number-line : (n : ℕ) (text : List ℕ) → ends_line text ≡ true → IsOneLine (decimal n ++ text)
number-line n text is =
    let parts = line-parts text is in (
      decimal n ++ parts.0,
      ap (λ l. decimal n ++ l) parts.1 ∙ sym (append_assoc (decimal n) parts.0 (10 ∷ [])),
      lacks_both 10 (decimal n) parts.0 (decimal-lacks 10 (omega arith) n) parts.2,
    )

-- ---- the check of a list

counted-by : (none single : Bool) (count : ℕ) (one more : List ℕ) → ends_line one ≡ true → ends_line more ≡ true
    → AreLines (if none then [] else decimal count ++ (if single then one else more))
counted-by true single count one more is is' = no-line
counted-by false true count one more is is' = a-line _ (number-line count one is)
counted-by false false count one more is is' = a-line _ (number-line count more is')

counted : (count : ℕ) (one more : List ℕ) → ends_line one ≡ true → ends_line more ≡ true → AreLines (count_text count one more)
counted count one more is is' = counted-by (nat_eq count 0) (nat_eq count 1) count one more is is'

summary-lines : (options : Options) (report : Report) → AreLines (printed_summary options report)
summary-lines options report =
    lines-if (nat_eq report.proper 0 || options.is_status_only) [] _ no-line
    (lines-both _ _ (counted report.improper _ _ refl refl)
    (lines-both _ _ (counted report.unread _ _ refl refl) (lines-both _ _ (counted report.different _ _ refl refl) no-line)))

unverified-lines : MessageIsOneLine → (options : Options) (list : List ℕ) (report : Report) → AreLines (unverified_text options list report)
unverified-lines message options list report =
    lines-if (is_unverified options.ignores_missing report) _ [] (a-line _ (message (unverified_message list))) no-line

writes : (event : Event) → IsLine event → WritesLines event
writes (Printed bytes) is = a-line bytes is
writes (Reported text) is = is

write-all : (events : List Event) → IsLineAtMost events → AllByRecursion WritesLines events
write-all events (inl none) = subst (AllByRecursion WritesLines) (sym none) tt
write-all events (inr one) = subst (AllByRecursion WritesLines) (sym one.1) (writes one.0 one.2, tt)

findings-write : MessageIsOneLine → (options : Options) (list : List ℕ) (number : ℕ) (findings : List Finding)
    → AllByRecursion WritesLines (numbered (finding_events options list) number findings)
findings-write message options list number [] = tt
findings-write message options list number (finding ∷ findings) =
    all-both WritesLines (finding_events options list number finding) (numbered (finding_events options list) (number + 1) findings)
    (write-all _ (findings_are_lines message options list number finding)) (findings-write message options list (number + 1) findings)

break-writes : MessageIsOneLine → (list : List ℕ) (number : ℕ) (end : ListEnd) → AllByRecursion WritesLines (break_events list number end)
break-writes message list number Whole = tt
break-writes message list number TooMany = tt
break-writes message list number Endless = (message (too_long_text list number), tt)
break-writes message list number (FailedRead why) = (message (line_message list number why), tt)

stop-writes : MessageIsOneLine → (options : Options) (list : List ℕ) (findings : List Finding) (end : Option ListEnd)
    → AllByRecursion WritesLines (stop_events options list findings end)
stop-writes message options list findings None = tt
stop-writes message options list findings (Some end) = break-writes message list (length findings + 1) end

no-line-writes : MessageIsOneLine → (list : List ℕ) (has_none : Bool) (behind : List Event) → AllByRecursion WritesLines behind
    → AllByRecursion WritesLines ((if has_none then Reported (no_line_text list) ∷ [] else []) ++ behind)
no-line-writes message list true behind all = (message (no_line_text list), all)
no-line-writes message list false behind all = all

end-writes : MessageIsOneLine → (options : Options) (list : List ℕ) (findings : List Finding) (end : Option ListEnd)
    → AllByRecursion WritesLines (end_events options list findings end)
end-writes message options list findings None = tt
end-writes message options list findings (Some end) =
    let report = report_at options.ignores_missing end findings in
    no-line-writes message list (has_no_line report) (Printed (summary_text options list report) ∷ [])
    (lines-both _ _ (summary-lines options report) (unverified-lines message options list report), tt)

pub lists_are_lines : MessageIsOneLine → (options : Options) (list : List ℕ) (outcome : ListOutcome)
    → AllByRecursion WritesLines (outcome_events options list outcome)
lists_are_lines message options list (Checked findings end) =
    all-both WritesLines (lines_events options list findings end) (end_events options list findings end)
    (all-both WritesLines (numbered (finding_events options list) 1 findings) (stop_events options list findings end)
    (findings-write message options list 1 findings) (stop-writes message options list findings end))
    (end-writes message options list findings end)
lists_are_lines message options list (Unopened refusal) = (message (refusal_message list refusal), tt)

-- ---- messages about lists

fault-form : (is_little : Bool) (list : List ℕ) (number : ℕ) (line message : List ℕ) → IsFault is_little list number line message
    → IsListMessage list message
fault-form is_little list number line message (inl long) = inr (inr (inl (number, long.1)))
fault-form is_little list number line message (inr improper) = inr (inr (inr (number, improper.2)))

source-form : {R : Type 0} (reading : SourceRules R) (is_little : Bool) (list : List ℕ) (source : R) (message : List ℕ)
    → SourceSaysNothing reading is_little list source message → IsListMessage list message
source-form reading is_little list source message (lines, items, have, inl failed) = inr (inl (failed.0, failed.2))
source-form reading is_little list source message (lines, items, have, inr (inl endless)) =
    inr (inr (inl (length lines + 1, endless.1)))
source-form reading is_little list source message (lines, items, have, inr (inr fault)) =
    fault-form is_little list (length lines + 1) fault.0 message fault.2

pub list_message : {S F : Type 0} (files : Files S F) (is_little : Bool) (list message : List ℕ) → MessageIsOneLine
    → ListSaysNothing files is_little list message → IsListLine list message
list_message files is_little list message law (inl refused) = (inl (refused.0, refused.2), law message)
list_message files is_little list message law (inr opened) =
    (source-form files.reading is_little list opened.0 message opened.2, law message)

broken-form : {R : Type 0} (reading : SourceRules R) (name : List ℕ) (source : R) (message : List ℕ) → Breaks reading name source message
    → IsListMessage name message
broken-form reading name source message broken = inr (inl (reading.reason broken.0, broken.2))

unread-form : {S F : Type 0} (files : Files S F) (name message : List ℕ) → HasNoText files name message → IsListMessage name message
unread-form files name message (inl refused) = inl (refused.0, refused.2)
unread-form files name message (inr opened) = broken-form files.reading name opened.0 message opened.2

lack-form : {S F R : Type 0} (files : Files S F) (input : Input R) (lists : List (List ℕ)) (message : List ℕ) (has_none : Bool)
    → LackText files input lists message has_none → (name : List ℕ) × IsListMessage name message
lack-form files input lists message true broken = (input_name, broken-form input.reading input_name input.source message broken)
lack-form files input lists message false lacks = (lacks.3, unread-form files lacks.3 message lacks.6)

pub names_message : {S F R : Type 0} (files : Files S F) (input : Input R) (lists : List (List ℕ)) (message : List ℕ) → MessageIsOneLine
    → ListNone files input lists message → (name : List ℕ) × IsListLine name message
names_message files input lists message law none =
    let found = lack-form files input lists message _ none in (found.0, (found.1, law message))

-- ---- audits

class-lacks : (b : ℕ) → b < 32 → (class : Class) (found : List Found) (word : List ℕ) → are_plain word ≡ true → Lacks b (class_text class found word)
class-lacks b low class found word plain = lacks_both b (decimal _) word (decimal-lacks b low _) (without b word low plain)

-- The counts before the last.
abbrev front_counts : List Found → List ℕ
front_counts found =
    class_text Of.Same found (codes " same, ") ++ class_text Of.Changed found (codes " changed, ")
    ++ class_text Of.Moved found (codes " moved, ") ++ class_text Of.Copied found (codes " copied, ")
    ++ class_text Of.New found (codes " new, ")

-- The counts, up to their last byte.
abbrev counts_before : List Found → List (List ℕ) → List ℕ
counts_before found unread =
    front_counts found ++ class_text Of.Missing found (codes " missing, ") ++ decimal (length unread) ++ codes " unreadable"

counts-lack : (b : ℕ) → b < 32 → (found : List Found) (unread : List (List ℕ)) → Lacks b (counts_before found unread)
counts-lack b low found unread =
    lacks_both b _ _
    (lacks_both b _ _
    (lacks_both b (front_counts found) _
    (lacks_both b _ _
    (lacks_both b _ _
    (lacks_both b _ _
    (lacks_both b _ _ (class-lacks b low Of.Same found (codes " same, ") refl)
    (class-lacks b low Of.Changed found (codes " changed, ") refl))
    (class-lacks b low Of.Moved found (codes " moved, ") refl))
    (class-lacks b low Of.Copied found (codes " copied, ") refl))
    (class-lacks b low Of.New found (codes " new, ") refl))
    (class-lacks b low Of.Missing found (codes " missing, ") refl))
    (decimal-lacks b low (length unread)))
    (without b (codes " unreadable") low refl)

-- Lemma: the counts are one part that ends with this byte, or none.
counts-whole : (is_one : List ℕ → Type 0) (options : Options) (found : List Found) (unread : List (List ℕ)) (end : ℕ) → (if options.ends_in_nul then 0 else 10) ≡ end
    → is_one (counts_before found unread ++ end ∷ []) → AreWhole is_one (counts_text options found unread)
counts-whole is_one options found unread end is one =
    parts-if is_one (has_objects options) [] _ (no-part is_one)
    (one-part is_one _ (subst (λ (e : ℕ). is_one (counts_before found unread ++ e ∷ [])) (sym is) one))

-- Lemma: shown results are whole if each result is.
shown-whole : (is_one : List ℕ → Type 0) (options : Options) (remarks : List Remark)
    → AllByRecursion (λ one. AreWhole is_one (formed_text options one)) remarks → AreWhole is_one (shown_texts options remarks)
shown-whole is_one options [] all = no-part is_one
shown-whole is_one options (one ∷ remarks) all =
    parts-both is_one (shown_text options one) (shown_texts options remarks)
    (parts-if is_one (options.is_quiet && is_same one) [] (formed_text options one) (no-part is_one) all.0) (shown-whole is_one options remarks all.1)

each-line : RemarkIsOneLine → ObjectIsOneLine → (options : Options) → options.ends_in_nul ≡ false
    → (remarks : List Remark) → AllByRecursion (λ one. AreLines (formed_text options one)) remarks
each-line line object options ends [] = tt
each-line line object options ends (one ∷ remarks) = (
  lines-if (has_objects options) _ _ (a-line _ (object options.is_little_endian one))
      (a-line _ (subst (λ nul. IsOneLine (remark_text nul one)) (sym ends) (line one))),
  each-line line object options ends remarks,
)

-- Lemma: a report is whole if its results and its counts are.
report-whole : (is_one : List ℕ → Type 0) (options : Options) (found : List Found) (unread : List (List ℕ))
    → AllByRecursion (λ one. AreWhole is_one (formed_text options one)) (remarks_of found unread) → AreWhole is_one (counts_text options found unread)
    → AreWhole is_one (report_text options found unread)
report-whole is_one options found unread all counts =
    parts-if is_one options.is_status_only [] _ (no-part is_one)
    (parts-both is_one (shown_texts options (remarks_of found unread)) (counts_text options found unread)
    (shown-whole is_one options (remarks_of found unread) all) counts)

pub report_is_lines : RemarkIsOneLine → ObjectIsOneLine → (options : Options) (found : List Found) (unread : List (List ℕ)) → options.ends_in_nul ≡ false
    → AreLines (report_text options found unread)
report_is_lines line object options found unread ends =
    report-whole IsOneLine options found unread (each-line line object options ends (remarks_of found unread))
    (counts-whole IsOneLine options found unread 10 (ap (λ (nul : Bool). if nul then 0 else 10) ends)
    (counts_before found unread, refl, counts-lack 10 (omega arith) found unread))

-- ---- records that end with a NUL

words-plain : (r : Remark) → are_plain (told_words r) ≡ true
words-plain = each-words (λ words. are_plain words ≡ true) refl refl refl refl refl refl refl

never : (test : Bool) → (test && false) ≡ false
never true = refl
never false = refl

other-records : (o : Option (List ℕ)) → OtherLacks 0 o → AreRecords (other_record o)
other-records None lacks = no-part IsOneRecord
other-records (Some other) lacks = one-part IsOneRecord (other ++ 0 ∷ []) (other, refl, lacks)

pub remark_is_records : (r : Remark) → HasNoNul r → AreRecords (remark_text true r)
remark_is_records r lacks =
    let first = told_name r ++ 58 ∷ 32 ∷ told_words r in
    let other = other_record (told_other r) in
    let plain : Lacks 0 (58 ∷ 32 ∷ told_words r) = without 0 (58 ∷ 32 ∷ told_words r) (omega arith) (words-plain r) in
    subst AreRecords (append_assoc first (0 ∷ []) other ∙ append_assoc (told_name r) (58 ∷ 32 ∷ told_words r) (0 ∷ other))
    (parts-both IsOneRecord (first ++ 0 ∷ []) other
    (one-part IsOneRecord (first ++ 0 ∷ []) (first, refl, lacks_both 0 (told_name r) (58 ∷ 32 ∷ told_words r) lacks.0 plain)) (other-records (told_other r) lacks.1))

each-record : (options : Options) → options.ends_in_nul ≡ true
    → (remarks : List Remark) → AllByRecursion HasNoNul remarks → AllByRecursion (λ one. AreRecords (formed_text options one)) remarks
each-record options ends [] all = tt
each-record options ends (one ∷ remarks) all = (
  subst (λ nul. AreRecords (if options.is_json && not nul then remark_json options.is_little_endian one else remark_text nul one)) (sym ends)
      (subst (λ test. AreRecords (if test then remark_json options.is_little_endian one else remark_text true one)) (sym (never options.is_json))
      (remark_is_records one all.0)),
  each-record options ends remarks all.1,
)

pub report_is_records : (options : Options) (found : List Found) (unread : List (List ℕ)) → options.ends_in_nul ≡ true
    → AllByRecursion HasNoNul (remarks_of found unread) → AreRecords (report_text options found unread)
report_is_records options found unread ends all =
    report-whole IsOneRecord options found unread (each-record options ends (remarks_of found unread) all)
    (counts-whole IsOneRecord options found unread 0 (ap (λ (nul : Bool). if nul then 0 else 10) ends)
    (counts_before found unread, refl, counts-lack 0 (omega arith) found unread))
