-- Proves that a line "NAME: OK" is printed only for a file with the line's value.
use Rattle.std.proofs.Common.{◌≡◌, ◌≢◌, ◌+◌, ℕ, Bool, true, false, List, [], ◌∷◌, ◌++◌, refl, sym, ap, ◌∙◌, subst, append-nil, arith, codes, decimal, drop, length, if◌then◌else◌}
use Rattle.xxhsum_program.specs.Prelude.{Found, SourceRules, StoreRules, concat, files_of}
use Rattle.std.proofs.lemmas.List.{append_assoc, append_cancel_right, length_push, same_from_push}
use Rattle.xxhsum_program.proofs.Prelude.{Different, EscapeIsUndone, Ignored, Improper, IsFound, IsValueOf, OkMeansEqual, PlainNamesStay, Printed, Proper, Reported, Same, Says, TooLong, Unread, printed_of, reason_text, same_Some}
use Rattle.xxhsum_line.specs.Escapes.{escaped, mark_of, needs_escape, one_line, unescaped}
use Rattle.xxhsum_program.specs.ListMessages.{found_text, improper_text, is_silent}

-- ---- the text of a line, which is unique

by-marks : EscapeIsUndone → PlainNamesStay → (a b : List ℕ) (m n : Bool) → needs_escape a ≡ m → needs_escape b ≡ n
    → (if m then 92 ∷ [] else []) ++ escaped a ++ 10 ∷ [] ≡ (if n then 92 ∷ [] else []) ++ escaped b ++ 10 ∷ [] → a ≡ b
by-marks undone stay a b true true of_a of_b is =
    let both : 92 ∷ escaped a ≡ 92 ∷ escaped b = append_cancel_right (92 ∷ escaped a) (92 ∷ escaped b) (10 ∷ []) is in
    same_Some a b (sym (undone a) ∙ ap (λ l. unescaped (drop 1 l)) both ∙ undone b)
by-marks undone stay a b false false of_a of_b is =
    sym (stay a of_a) ∙ append_cancel_right (escaped a) (escaped b) (10 ∷ []) is ∙ stay b of_b
by-marks undone stay a b true false of_a of_b is =
    let whole : 92 ∷ escaped a ≡ b = append_cancel_right (92 ∷ escaped a) (escaped b) (10 ∷ []) is ∙ stay b of_b in
    let no : true ≡ false = ap needs_escape whole ∙ of_b in cc
by-marks undone stay a b false true of_a of_b is =
    let whole : 92 ∷ escaped b ≡ a = sym (append_cancel_right (escaped a) (92 ∷ escaped b) (10 ∷ []) is) ∙ stay a of_a in
    let no : true ≡ false = ap needs_escape whole ∙ of_a in cc

texts-same : EscapeIsUndone → PlainNamesStay → (a b : List ℕ) → one_line a ≡ one_line b → a ≡ b
texts-same undone stay a b is = by-marks undone stay a b (needs_escape a) (needs_escape b) refl refl is

some-line : (text : List ℕ) → [] ≡ one_line text → ⊥
some-line text is =
    let no : 0 ≡ length (mark_of text ++ escaped text) + 1 = ap length is ∙ length_push (mark_of text ++ escaped text) 10 in
    absurd (omega (arith, no))

-- ---- the last byte of a text

abbrev Ends : ℕ → List ℕ → Type 0
Ends c text = (front : List ℕ) × (text ≡ front ++ c ∷ [])

behind : (x text : List ℕ) (c : ℕ) → Ends c text → Ends c (x ++ text)
behind x text c (front, is) = (x ++ front, ap (λ t. x ++ t) is ∙ sym (append_assoc x front (c ∷ [])))

not-both : (c d : ℕ) (a b : List ℕ) → c ≢ d → Ends c a → Ends d b → a ≡ b → ⊥
not-both c d a b differ (front, of_a) (other, of_b) is =
    differ (same_from_push front other c d (sym of_a ∙ is ∙ of_b)).1

ok-ends : (name : List ℕ) → Ends 75 (name ++ codes ": OK")
ok-ends name = behind name (codes ": OK") 75 (codes ": O", refl)

failed-ends : (name : List ℕ) → Ends 68 (name ++ codes ": FAILED")
failed-ends name = behind name (codes ": FAILED") 68 (codes ": FAILE", refl)

unread-ends : (list : List ℕ) (number : ℕ) (name why : List ℕ)
    → Ends 46 (concat (list ∷ codes ":" ∷ decimal number ∷ codes ": Could not open or read '" ∷ name ∷ codes "': " ∷ why ∷ codes "." ∷ []))
unread-ends list number name why =
    let last : Ends 46 (concat (why ∷ codes "." ∷ [])) = behind why (codes ".") 46 ([], refl) in
    let quoted = behind name _ 46 (behind (codes "': ") _ 46 last) in
    behind list _ 46 (behind (codes ":") _ 46 (behind (decimal number) _ 46 (behind (codes ": Could not open or read '") _ 46 quoted)))

-- ---- a line of a list

not-reported : (test : Bool) (entries text : List ℕ) → printed_of (if test then Reported entries ∷ [] else []) ≡ one_line text → ⊥
not-reported true entries text is = some-line text is
not-reported false entries text is = some-line text is

spoken : EscapeIsUndone → PlainNamesStay → (silent : Bool) (shown text : List ℕ) → printed_of (if silent then [] else Printed (one_line shown) ∷ []) ≡ one_line text → shown ≡ text
spoken undone stay true shown text is = absurd (some-line text is)
spoken undone stay false shown text is = texts-same undone stay shown text (sym (append-nil (one_line shown)) ∙ is)

found-same : (list : List ℕ) (number : ℕ) (entries name : List ℕ) (found : Found) → found_text list number entries found ≡ name ++ codes ": OK" → (found ≡ Same) × (entries ≡ name)
found-same list number entries name Same is = (refl, append_cancel_right entries name (codes ": OK") is)
found-same list number entries name Different is =
    absurd (not-both 68 75 _ _ (λ no. absurd (omega (arith, no))) (failed-ends entries) (ok-ends name) is)
found-same list number entries name (Unread reason) is =
    absurd (not-both 46 75 _ _ (λ no. absurd (omega (arith, no))) (unread-ends list number entries (reason_text reason)) (ok-ends name) is)

pub ok_means_equal : {S F : Type 0} (opening : StoreRules S F) (reading : SourceRules F) → EscapeIsUndone → PlainNamesStay → OkMeansEqual opening reading
ok_means_equal opening reading undone stay store options list number line Ignored name finds is = absurd (some-line (name ++ codes ": OK") is)
ok_means_equal opening reading undone stay store options list number line Improper name finds is = absurd (not-reported options.warns (improper_text list number) (name ++ codes ": OK") is)
ok_means_equal opening reading undone stay store options list number line TooLong name finds is = absurd (some-line (name ++ codes ": OK") is)
ok_means_equal opening reading undone stay store options list number line (Proper entries found) name (short, kind, value, says, of_file) is =
    let same = found-same list number entries name found (spoken undone stay (is_silent options found) (found_text list number entries found) (name ++ codes ": OK") is) in
    let equal : IsValueOf (files_of opening reading store) kind entries value = subst (λ f. IsFound (files_of opening reading store) kind value entries f) same.0 of_file in (
      kind,
      value,
      subst (λ n. Says options.is_little_endian line kind value n) same.1 says,
      subst (λ n. IsValueOf (files_of opening reading store) kind n value) same.1 equal,
    )
