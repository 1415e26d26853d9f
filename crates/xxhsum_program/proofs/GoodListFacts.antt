-- Proves that all lines are well if the report has no different file, no unread file and no line that is too long.
use Rattle.std.proofs.Common.{◌≡◌, ◌&&◌, ℕ, Bool, true, false, List, [], ◌∷◌, Some, None, refl, arith, if◌then◌else◌, inl, inr}
use Rattle.xxhsum_program.specs.Prelude.{AllByRecursion, EachHas, Files, Options, Reason, Report, SourceRules, StoreRules, files_of}
use Rattle.xxhsum_program.proofs.Prelude.{Different, Endless, FailedRead, GoodMeansEqual, HasNoValue, IsPassedOver, IsWell, ListEnd, Same, TooMany, Unread, Whole, has_no_file, passes, report_at}
use Rattle.xxhsum_program.specs.declared.outcome.Reason.TheVariants as Why
use Rattle.xxhsum_program.specs.Findings.{Finding, Ignored, Improper, IsFinding, Proper, TooLong, add_up, count_one, no_findings, one_more}

-- A report with no different file, no unread file and no line that is too long.
abbrev Clean : Report → Type 0
Clean report = (report.different ≡ 0) × (report.unread ≡ 0) × (report.is_broken ≡ false)

more-than-none : (count : ℕ) → one_more count ≡ 0 → ⊥
more-than-none count is = grind (arith, is)

-- Lemma: an unread file was ignored if the report with it is clean.
ignored : (is_ignored : Bool) (report : Report) → Clean (if is_ignored then report else record report { unread = one_more report.unread }) → Clean report × (is_ignored ≡ true)
ignored true report clean = (clean, refl)
ignored false report clean = absurd (more-than-none report.unread clean.1)

passed_over : {S F : Type 0} (files : Files S F) (name : List ℕ) (ignores : Bool) (reason : Reason)
    → HasNoValue files name reason → (ignores && has_no_file reason) ≡ true → IsPassedOver files ignores name
passed_over files name true (Why.Unopened refusal) none is = (refl, refusal, none, is)
passed_over files name ignores reason none is = let no : false ≡ true = is in cc

one-well : {S F : Type 0} (files : Files S F) (options : Options) (line : List ℕ) (report : Report) (finding : Finding)
    → IsFinding files options.is_little_endian line finding → Clean (count_one options.ignores_missing report finding)
    → Clean report × IsWell files options line
one-well files options line report Ignored is clean = (clean, inl is.1)
one-well files options line report Improper is clean = (clean, inr (inl is.1))
one-well files options line report TooLong is clean = let no : true ≡ false = clean.2 in cc
one-well files options line report (Proper name Same) (short, kind, value, says, is) clean = (clean, inr (inr (kind, value, name, says, inl is)))
one-well files options line report (Proper name Different) is clean = absurd (more-than-none report.different clean.0)
one-well files options line report (Proper name (Unread reason)) (short, kind, value, says, none) clean =
    let rest = ignored (options.ignores_missing && has_no_file reason) (record report { proper = one_more report.proper }) clean in
    (rest.0, inr (inr (kind, value, name, says, inr (passed_over files name options.ignores_missing reason none rest.1))))

all-well : {S F : Type 0} (files : Files S F) (options : Options) (report : Report) (lines : List (List ℕ)) (findings : List Finding)
    → EachHas (IsFinding files options.is_little_endian) lines findings → Clean (add_up options.ignores_missing report findings)
    → Clean report × AllByRecursion (IsWell files options) lines
all-well files options report [] [] has clean = (clean, tt)
all-well files options report [] (f ∷ fs) has clean = absurd has
all-well files options report (line ∷ lines) [] has clean = absurd has
all-well files options report (line ∷ lines) (f ∷ fs) has clean =
    let rest = all-well files options (count_one options.ignores_missing report f) lines fs has.1 clean in
    let one = one-well files options line report f has.0 rest.0 in
    (one.0, (one.1, rest.1))

passes-clean : (options : Options) (report : Report) → passes options report ≡ true → Clean report
passes-clean options report is = grind (arith, is)

at-clean : (ignores : Bool) (end : ListEnd) (findings : List Finding) → Clean (report_at ignores end findings) → Clean (add_up ignores no_findings findings)
at-clean ignores Whole findings clean = clean
at-clean ignores TooMany findings clean = clean
at-clean ignores Endless findings clean = let no : true ≡ false = clean.2 in cc
at-clean ignores (FailedRead why) findings clean = let no : true ≡ false = clean.2 in cc

pub good-means-equal : {S F R : Type 0} (opening : StoreRules S F) (reading : SourceRules F) (list_reading : SourceRules R) → GoodMeansEqual opening reading list_reading
good-means-equal opening reading list_reading store options source findings None finds is = let no : false ≡ true = is in cc
good-means-equal opening reading list_reading store options source findings (Some end) (lines, has, meets) is =
    let clean = at-clean options.ignores_missing end findings (passes-clean options (report_at options.ignores_missing end findings) is) in
    (lines, meets, (all-well (files_of opening reading store) options no_findings lines findings has clean).1)
