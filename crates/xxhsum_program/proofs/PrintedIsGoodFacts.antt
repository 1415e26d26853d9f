-- Proves that a hashing run prints a good list while the files stay unchanged.
use Rattle.std.proofs.Common.{◌≡◌, ℕ, ◌+◌, ◌<◌, Bool, true, false, List, [], ◌∷◌, ◌++◌, length, refl, sym, ap, subst, ◌∙◌, arith, ◌^◌, nat_eq, nat_lt}
use Rattle.xxhsum_program.proofs.Prelude.{Comes, Different, Same, digits_of, is_good, is_unverified, line_of, lines_of, name_events, nat_tests, passes, printed_of, report_at, value-lt}
use Rattle.xxhsum_program.specs.Prelude.{AllByRecursion, Digested, EachHas, Files, Found, IsDirectory, Kind, Options, Outcome, Report, Shape, SourceRules, StoreRules, Unread, concat, files_of}
use Rattle.xxhsum_program.specs.Findings.{Finding, Proper, add_up, no_findings, one_more}
use Rattle.xxhsum_program.specs.PrintedIsGood.{FilesStay, IsName, PrintedIsGood, entries_of, plain_style}
use Rattle.xxhsum_program.specs.PrintedList.{AreListed, AreFindingsOf, Holds, Listed, printed_list}
use Rattle.xxhsum_program.specs.declared.entry.Found.TheVariants as Is
use Rattle.xxhsum_program.proofs.PrintedListFacts.{checks_printed, short_names_fit}

-- Lemma: the printed lines are the list of the entries.
printed_text : (kind : Kind) (shape : Shape) (names : List (List ℕ)) (outcomes : List Outcome)
    → printed_of (lines_of (name_events kind (plain_style shape)) names outcomes) ≡ printed_list (entries_of kind shape names outcomes)
printed_text kind shape [] outcomes = refl
printed_text kind shape (name ∷ names) [] = refl
printed_text kind shape (name ∷ names) (Digested value ∷ outcomes) = ap (λ t. line_of kind shape value name ++ t) (printed_text kind shape names outcomes)
printed_text kind shape (name ∷ names) (IsDirectory ∷ outcomes) = printed_text kind shape names outcomes
printed_text kind shape (name ∷ names) (Unread reason ∷ outcomes) = printed_text kind shape names outcomes

-- Lemma: the entries of names that are short enough are entries of a list.
listed : {S F : Type 0} (files : Files S F)
    → (kind : Kind) (shape : Shape) (names : List (List ℕ)) (outcomes : List Outcome) → AllByRecursion IsName names
    → EachHas (Comes files kind) names outcomes → AreListed shape.is_little (entries_of kind shape names outcomes)
listed files kind shape [] outcomes are added = tt
listed files kind shape (name ∷ names) [] are added = absurd added
listed files kind shape (name ∷ names) (Digested value ∷ outcomes) are ((free, (file, end, pieces, read, message, opened, on, is)), added) =
    let small : value < 16 ^ digits_of kind = subst (λ v. v < 16 ^ digits_of kind) (sym is) (value-lt kind (concat pieces)) in
    ((small, are.0.0, short_names_fit kind shape value name are.0.1, refl), listed files kind shape names outcomes are.1 added)
listed files kind shape (name ∷ names) (IsDirectory ∷ outcomes) are added =
    listed files kind shape names outcomes are.1 added.1
listed files kind shape (name ∷ names) (Unread reason ∷ outcomes) are added =
    listed files kind shape names outcomes are.1 added.1

-- ---- the findings

abbrev IsSame : Finding → Type 0
IsSame finding = (name : List ℕ) × (finding ≡ Proper name Same)

one_same : {S F : Type 0} (files : Files S F) (e : Listed) (finding : Finding) (found : Found)
    → FilesStay files e.kind → Rattle.xxhsum_program.specs.Outcomes.IsValueOf files e.kind e.name e.value
    → finding ≡ Proper e.name found → Rattle.xxhsum_program.specs.Found.IsFound files e.kind e.value e.name found → IsSame finding
one_same files e finding Same stay has is found = (e.name, is)
one_same files e finding Different stay has is (other, value, differs) = absurd (differs ((stay e.name e.value has).0 other value))
one_same files e finding (Is.Unread reason) stay has is none = absurd ((stay e.name e.value has).1 reason none)

all_same : {S F : Type 0} (files : Files S F)
    → (kind : Kind) (shape : Shape) (names : List (List ℕ)) (outcomes : List Outcome) (findings : List Finding)
    → EachHas (Comes files kind) names outcomes → FilesStay files kind
    → AreFindingsOf files (entries_of kind shape names outcomes) findings → AllByRecursion IsSame findings
all_same files kind shape [] outcomes [] added stay are = tt
all_same files kind shape [] outcomes (f ∷ fs) added stay are = absurd are
all_same files kind shape (name ∷ names) [] findings added stay are = absurd added
all_same files kind shape (name ∷ names) (Digested value ∷ outcomes) [] added stay are = absurd are
all_same files kind shape (name ∷ names) (Digested value ∷ outcomes) (f ∷ fs) added stay are = (
  one_same files (record { kind = kind; shape = shape; value = value; name = name }) f are.0.0 stay added.0.1 are.0.1 are.0.2,
  all_same files kind shape names outcomes fs added.1 stay are.1,
)
all_same files kind shape (name ∷ names) (IsDirectory ∷ outcomes) findings added stay are =
    all_same files kind shape names outcomes findings added.1 stay are
all_same files kind shape (name ∷ names) (Unread reason ∷ outcomes) findings added stay are =
    all_same files kind shape names outcomes findings added.1 stay are

as_many : {S F : Type 0} (files : Files S F) (entries : List Listed) (findings : List Finding)
    → AreFindingsOf files entries findings → length findings ≡ length entries
as_many files [] [] are = refl
as_many files [] (f ∷ fs) are = absurd are
as_many files (e ∷ es) [] are = absurd are
as_many files (e ∷ es) (f ∷ fs) are = let rest = as_many files es fs are.1 in omega (arith, rest)

-- ---- their report

-- The number of well-formed lines after these findings.
abbrev proper_after : ℕ → List Finding → ℕ
proper_after count [] = count
proper_after count (finding ∷ findings) = proper_after (one_more count) findings

adds_up : (ignores : Bool) (report : Report) (findings : List Finding) → AllByRecursion IsSame findings
    → add_up ignores report findings ≡ record report { proper = proper_after report.proper findings; same = proper_after report.same findings }
adds_up ignores report [] all = refl
adds_up ignores report (finding ∷ findings) all =
    rw all.0.1 (adds_up ignores (record report { proper = one_more report.proper; same = one_more report.same }) findings all.1)

counted : (count : ℕ) (findings : List Finding) → 0 < count + length findings → 0 < proper_after count findings
counted count [] some = omega (arith, some)
counted count (finding ∷ findings) some = counted (one_more count) findings (omega arith)

good : (is_strict : Bool) (count : ℕ) → 0 < count → is_good is_strict (record { proper = count; improper = 0; unread = 0; same = count; different = 0; is_broken = false }) ≡ true
good true count some = let test : nat_lt 0 count ≡ true = grind (arith, nat_tests, some) in rw test refl
good false count some = let test : nat_lt 0 count ≡ true = grind (arith, nat_tests, some) in rw test refl

verified : (ignores : Bool) (count : ℕ) → 0 < count → is_unverified ignores (record { proper = count; improper = 0; unread = 0; same = count; different = 0; is_broken = false }) ≡ false
verified true count some = let test : nat_eq count 0 ≡ false = grind (arith, nat_tests, some) in test
verified false count some = refl

passed : (options : Options) (count : ℕ) → 0 < count → passes options (record { proper = count; improper = 0; unread = 0; same = count; different = 0; is_broken = false }) ≡ true
passed options count some = rw (good options.is_strict count some, verified options.ignores_missing count some) refl

pub printed_is_good : {S F R : Type 0} (opening : StoreRules S F) (reading : SourceRules F) (list_reading : SourceRules R)
    → PrintedIsGood opening reading list_reading
printed_is_good opening reading list_reading store kind shape names outcomes source findings end options added stay are some few holds finds =
    let entries = entries_of kind shape names outcomes in
    let held = subst (Holds list_reading source) (printed_text kind shape names outcomes) holds in
    let found = checks_printed opening reading list_reading store shape.is_little entries source findings end (listed (files_of opening reading store) kind shape names outcomes are added) few held finds in
    let same = all_same (files_of opening reading store) kind shape names outcomes findings added stay found.1 in
    let some_findings : 0 < 0 + length findings = omega (arith, as_many (files_of opening reading store) entries findings found.1, some) in
    let sum : report_at options.ignores_missing end findings ≡ record { proper = proper_after 0 findings; improper = 0; unread = 0; same = proper_after 0 findings; different = 0; is_broken = false } =
    ap (λ e. report_at options.ignores_missing e findings) found.0 ∙ adds_up options.ignores_missing no_findings findings same in
    ap (passes options) sum ∙ passed options (proper_after 0 findings) (counted 0 findings some_findings)
