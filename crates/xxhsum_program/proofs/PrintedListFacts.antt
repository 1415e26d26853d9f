-- Lemmas on the lines that are found in a printed list.
use Rattle.std.proofs.Common.{◌≡◌, ℕ, ◌+◌, ◌<◌, Bool, true, false, List, [], ◌∷◌, ◌++◌, length, map, refl, sym, ap, subst, ◌∙◌, inl, inr, append-nil, append_assoc, length-append, arith}
use Rattle.xxhsum_program.specs.ListLines.{longest_line}
use Rattle.xxhsum_program.proofs.Prelude.{IsFound, IsLastLine, Says, SliceSource, both_ways, end_piece, false≢true, first_same, is_comment, lacks_not, length-map, says_same, slice-end, slice-pieces, slice_reading, slice_rest}
use Rattle.xxhsum_program.specs.Prelude.{AllByRecursion, EachHas, Files, Lacks, NoneEmpty, Pieces, SourceRules, StoreRules, concat, files_of}
use Rattle.xxhsum_line.proofs.PrintedFacts.{printed_is_accepted, printed_is_no_comment, printed_is_one_line, printed_length}
use Rattle.xxhsum_program.specs.CheckList.{EndsWell, HasLines, ReadsLines, with_line_feeds}
use Rattle.xxhsum_program.specs.Findings.{Finding, Ignored, Improper, IsFinding, Proper, TooLong}
use Rattle.xxhsum_program.specs.ListEnd.{Endless, FailedRead, TooMany, Whole}
use Rattle.xxhsum_program.specs.PrintedList.{AreListed, BeginsTooLong, ChecksPrinted, FindsPrintedFiles, FindsPrintedLines, HasJustLines, Holds, HoldsPrintedLines, IsFindingOf, IsLineOf, IsListed, Listed, ShortNamesFit, printed_list, text_of_listed}

-- ---- the lines and the rest of a text

-- A printed line.
abbrev pub IsLine : List ℕ → Type 0
IsLine line = Lacks 10 line × (length line < longest_line)

-- The first lines of a text, with the rest of the text.
abbrev pub Beginning : List (List ℕ) → List (List ℕ) → List ℕ → Type 0
Beginning texts lines rest = (others : List (List ℕ)) × (texts ≡ lines ++ others) × (with_line_feeds others ≡ rest)

nothing_before : (line rest : List ℕ) → ◌≡◌ {A = List ℕ} [] (line ++ 10 ∷ rest) → ⊥
nothing_before [] rest e = cc
nothing_before (c ∷ line) rest e = cc

pub begins_with_lines : (texts lines : List (List ℕ)) (rest : List ℕ) → AllByRecursion IsLine texts → AllByRecursion (Lacks 10) lines
    → with_line_feeds texts ≡ with_line_feeds lines ++ rest → Beginning texts lines rest
begins_with_lines texts [] rest all is e = (texts, refl, e)
begins_with_lines [] (line ∷ lines) rest all is e =
    absurd (nothing_before line (with_line_feeds lines ++ rest) (e ∙ append_assoc line (10 ∷ with_line_feeds lines) rest))
begins_with_lines (text ∷ texts) (line ∷ lines) rest all is e =
    let whole : text ++ 10 ∷ with_line_feeds texts ≡ line ++ 10 ∷ (with_line_feeds lines ++ rest) = e ∙ append_assoc line (10 ∷ with_line_feeds lines) rest in
    let same = first_same 10 text (with_line_feeds texts) line (with_line_feeds lines ++ rest) whole all.0.0 is.0 in
    let more = begins_with_lines texts lines rest all.1 is.1 same.1 in
    (more.0, ap (λ t. t ∷ texts) same.0 ∙ ap (λ ts. line ∷ ts) more.1, more.2)

-- Lemma: a text of lines has no last line without a newline.
pub no_last_line : (others : List (List ℕ)) (last : List ℕ) → with_line_feeds others ≡ last → IsLastLine last → ⊥
no_last_line [] last e is = let none : length last ≡ 0 = ap length (sym e) in omega (arith, none, is.1)
no_last_line (other ∷ others) last e is = lacks_not 10 other (with_line_feeds others) (subst (Lacks 10) (sym e) is.0)

-- Lemma: a prefix without a newline is not longer than the line before the first newline.
feed_within : (line rest front more : List ℕ) → line ++ 10 ∷ rest ≡ front ++ more → length line < length front → Lacks 10 front → ⊥
feed_within [] rest [] more e short lacks = omega arith
feed_within [] rest (c ∷ front) more e short lacks = let here : c ≡ 10 = cc in lacks.0 here
feed_within (l ∷ line) rest [] more e short lacks = omega arith
feed_within (l ∷ line) rest (c ∷ front) more e short lacks =
    let tails : line ++ 10 ∷ rest ≡ front ++ more = cc in
    feed_within line rest front more tails (omega arith) lacks.1

pub not_too_long : (others : List (List ℕ)) (rest more : List ℕ) → AllByRecursion IsLine others → with_line_feeds others ≡ rest ++ more
    → BeginsTooLong rest → ⊥
not_too_long [] rest more all e (front, behind, are, lacks, long, longer) =
    let none : length (rest ++ more) ≡ 0 = ap length (sym e) in
    let parts : length (rest ++ more) ≡ length rest + length more = length-append rest more in
    omega (arith, none, parts, longer)
not_too_long (other ∷ others) rest more all e (front, behind, are, lacks, long, longer) =
    let whole : other ++ 10 ∷ with_line_feeds others ≡ front ++ (behind ++ more) = e ∙ ap (λ r. r ++ more) are ∙ append_assoc front behind more in
    let short : length other < length front = omega (arith, all.0.1, long) in
    feed_within other (with_line_feeds others) front (behind ++ more) whole short lacks

-- ---- printed lists

pub printed_lines : (entries : List Listed) → printed_list entries ≡ with_line_feeds (map text_of_listed entries)
printed_lines [] = refl
printed_lines (e ∷ es) =
    append_assoc (text_of_listed e) (10 ∷ []) (printed_list es) ∙ ap (λ r. text_of_listed e ++ 10 ∷ r) (printed_lines es)

pub listed_are_lines : (is_little : Bool) (entries : List Listed) → AreListed is_little entries → AllByRecursion IsLine (map text_of_listed entries)
listed_are_lines is_little [] all = tt
listed_are_lines is_little (e ∷ es) all =
    ((printed_is_one_line e.kind e.shape e.value e.name, all.0.2), listed_are_lines is_little es all.1)

lack_line_feeds : (lines : List (List ℕ)) → AllByRecursion IsLine lines → AllByRecursion (Lacks 10) lines
lack_line_feeds [] all = tt
lack_line_feeds (line ∷ lines) all = (all.0.0, lack_line_feeds lines all.1)

is_line_of : (is_little : Bool) (e : Listed) → IsListed is_little e → IsLineOf is_little (text_of_listed e) e
is_line_of is_little e listed =
    let says = subst (λ b. Says b (text_of_listed e) e.kind e.value e.name) listed.3 (printed_is_accepted e.kind e.shape e.value e.name listed.0 listed.1) in (
      refl,
      printed_is_no_comment e.kind e.shape e.value e.name,
      says,
      λ kind value name other. says_same is_little (text_of_listed e) kind value name e.kind e.value e.name other says,
    )

pub each_is_line_of : (is_little : Bool) (entries : List Listed) → AreListed is_little entries
    → EachHas (IsLineOf is_little) (map text_of_listed entries) entries
each_is_line_of is_little [] all = tt
each_is_line_of is_little (e ∷ es) all = (is_line_of is_little e all.0, each_is_line_of is_little es all.1)

nothing_left : (lines others : List (List ℕ)) → with_line_feeds others ≡ [] → lines ++ others ≡ lines
nothing_left lines [] e = append-nil lines
nothing_left lines (other ∷ others) e = absurd (nothing_before other (with_line_feeds others) (sym e))

-- Lemma: the lines of a text made of lines are these lines.
pub lines_are : (texts lines : List (List ℕ)) → AllByRecursion IsLine texts → HasLines true (with_line_feeds texts) lines [] → texts ≡ lines
lines_are texts lines all (inl has) =
    let begin = begins_with_lines texts lines [] all has.0 has.1 in
    begin.1 ∙ nothing_left lines begin.0 begin.2
lines_are texts lines all (inr (ended, ends, none)) =
    let begin = begins_with_lines texts ends.0 ends.1 all ends.2 ends.4 in
    absurd (no_last_line begin.0 ends.1 begin.2 ends.3)

pub finds_printed_lines : FindsPrintedLines
finds_printed_lines is_little entries lines all has =
    let texts = map text_of_listed entries in
    let same = lines_are texts lines (listed_are_lines is_little entries all) (subst (λ t. HasLines true t lines []) (printed_lines entries) has) in
    subst (λ ls. EachHas (IsLineOf is_little) ls entries) same (each_is_line_of is_little entries all)

pub reads_printed_lines : {R : Type 0} (reading : SourceRules R) (is_little : Bool) (entries : List Listed) (source end : R) (pieces : List (List ℕ))
    → AreListed is_little entries → NoneEmpty pieces → Pieces reading.gives source (pieces ++ [] ∷ []) end → concat pieces ≡ printed_list entries
    → EndsWell reading source (map text_of_listed entries)
reads_printed_lines reading is_little entries source end pieces all some read are =
    let texts = map text_of_listed entries in
    let text : concat pieces ≡ with_line_feeds texts ++ [] = are ∙ printed_lines entries ∙ sym (append-nil (with_line_feeds texts)) in
    (pieces, end, some, read, inl (lack_line_feeds texts (listed_are_lines is_little entries all), text))

-- ---- the results of a check of the list

all_right : (lines others : List (List ℕ)) → AllByRecursion IsLine (lines ++ others) → AllByRecursion IsLine others
all_right [] others all = all
all_right (line ∷ lines) others all = all_right lines others all.1

-- Lemma: the bytes read are a prefix of the text, and all of it at the end of the source.
read_part : {R : Type 0} (reading : SourceRules R) (source end : R) (text : List ℕ) (has_ended : Bool) (pieces : List (List ℕ))
    → Holds reading source text → NoneEmpty pieces → Pieces reading.gives source (pieces ++ end_piece has_ended) end
    → (more : List ℕ) × (text ≡ concat pieces ++ more) × (has_ended ≡ true → more ≡ [])
read_part reading source end text true pieces holds some read =
    ([], sym (append-nil (concat pieces) ∙ holds.1 pieces end some read), λ e. refl)
read_part reading source end text false pieces holds some read =
    let part = (holds.0 pieces end some (subst (λ ps. Pieces reading.gives source ps end) (append-nil pieces) read)).0 in
    (part.0, part.1, λ e. absurd (false≢true e))

-- Lemma: the lines read are the first lines of the text.
reads_begin : {R : Type 0} (reading : SourceRules R) (source : R) (texts lines : List (List ℕ)) (rest : List ℕ) (has_ended : Bool)
    → AllByRecursion IsLine texts → Holds reading source (with_line_feeds texts) → ReadsLines reading source has_ended lines rest
    → (more : List ℕ) × Beginning texts lines (rest ++ more)
reads_begin reading source texts lines rest has_ended all holds (pieces, end, some, read, inl has) =
    let part = read_part reading source end (with_line_feeds texts) has_ended pieces holds some read in
    let whole : with_line_feeds texts ≡ with_line_feeds lines ++ (rest ++ part.0) =
    part.1 ∙ ap (λ t. t ++ part.0) has.1 ∙ append_assoc (with_line_feeds lines) rest part.0 in
    (part.0, begins_with_lines texts lines (rest ++ part.0) all has.0 whole)
reads_begin reading source texts lines rest has_ended all holds (pieces, end, some, read, inr (ended, ends, none)) =
    let part = read_part reading source end (with_line_feeds texts) has_ended pieces holds some read in
    let whole : with_line_feeds texts ≡ with_line_feeds ends.0 ++ ends.1 =
    part.1 ∙ ap (λ m. concat pieces ++ m) (part.2 ended) ∙ append-nil (concat pieces) ∙ ends.4 in
    let begin = begins_with_lines texts ends.0 ends.1 all ends.2 whole in
    absurd (no_last_line begin.0 ends.1 begin.2 ends.3)

-- Lemma: a source that holds lines has these lines and no others.
holds_just_lines : {R : Type 0} (reading : SourceRules R) (source : R) (texts : List (List ℕ))
    → AllByRecursion IsLine texts → Holds reading source (with_line_feeds texts) → HasJustLines reading source texts
holds_just_lines reading source texts all holds = (
  λ lines well. lines_are texts lines all (subst (λ t. HasLines true t lines []) (holds.1 well.0 well.1 well.2 well.3) well.4),
  λ lines some.
      let begin = (reads_begin reading source texts lines some.1 some.0 all holds some.2).1 in
      (begin.0, begin.1),
  λ has_ended lines rest reads long.
      let begin = reads_begin reading source texts lines rest has_ended all holds reads in
      let others = all_right lines begin.1.0 (subst (AllByRecursion IsLine) begin.1.1 all) in
      not_too_long begin.1.0 rest begin.0 others begin.1.2 long,
  λ why bytes failed. (holds.0 failed.0 failed.1 failed.2 failed.3).1 why failed.4,
)

pub holds_printed_lines : {R : Type 0} (reading : SourceRules R) → HoldsPrintedLines reading
holds_printed_lines reading is_little entries source all holds =
    holds_just_lines reading source (map text_of_listed entries) (listed_are_lines is_little entries all)
    (subst (Holds reading source) (printed_lines entries) holds)

found_one : {S F : Type 0} (files : Files S F) (is_little : Bool) (line : List ℕ) (e : Listed) (finding : Finding)
    → length line < longest_line → IsLineOf is_little line e → IsFinding files is_little line finding
    → IsFindingOf files e finding
found_one files is_little line e Ignored short of is = absurd (both_ways (is_comment line) of.1 is.1)
found_one files is_little line e Improper short of is = absurd (is.1.1 e.kind e.value e.name of.2)
found_one files is_little line e TooLong short of is = let long : longest_line < length line = is in absurd (omega (arith, short, long))
found_one files is_little line e (Proper name found) short of (within, kind, value, says, is) =
    let same = of.3 kind value name says in
    let at_kind = subst (λ k. IsFound files k value name found) same.0 is in
    let at_value = subst (λ v. IsFound files e.kind v name found) same.1 at_kind in
    (found, ap (λ n. Proper n found) same.2, subst (λ n. IsFound files e.kind e.value n found) same.2 at_value)

pub finds_printed_files : {S F : Type 0} (opening : StoreRules S F) (reading : SourceRules F)
    → FindsPrintedFiles opening reading
finds_printed_files opening reading store is_little [] [] all each = tt
finds_printed_files opening reading store is_little [] (finding ∷ findings) all each = absurd each
finds_printed_files opening reading store is_little (e ∷ es) [] all each = absurd each
finds_printed_files opening reading store is_little (e ∷ es) (finding ∷ findings) all each = (
  found_one (files_of opening reading store) is_little (text_of_listed e) e finding all.0.2 (is_line_of is_little e all.0) each.0,
  finds_printed_files opening reading store is_little es findings all.1 each.1,
)

pub checks_printed : {S F R : Type 0} (opening : StoreRules S F) (reading : SourceRules F) (list_reading : SourceRules R)
    → ChecksPrinted opening reading list_reading
checks_printed opening reading list_reading store is_little entries source findings Whole all few holds (lines, each, well) =
    let same = (holds_printed_lines list_reading is_little entries source all holds).0 lines well in (
      refl,
      finds_printed_files opening reading store is_little entries findings all
          (subst (λ ls. EachHas (IsFinding (files_of opening reading store) is_little) ls findings) (sym same) each),
    )
checks_printed opening reading list_reading store is_little entries source findings TooMany all few holds (lines, each, (some, count)) =
    let texts = map text_of_listed entries in
    let rest = (holds_printed_lines list_reading is_little entries source all holds).1 lines some in
    let parts : length texts ≡ length lines + length rest.0 = ap length rest.1 ∙ length-append lines rest.0 in
    let as_many : length texts ≡ length entries = length-map entries text_of_listed in
    absurd (omega (arith, parts, as_many, count, few))
checks_printed opening reading list_reading store is_little entries source findings Endless all few holds (lines, each, (has_ended, rest, reads, endless)) =
    let long : BeginsTooLong rest = (rest, [], sym (append-nil rest), endless.0, omega (arith, endless.1), omega (arith, endless.1)) in
    absurd ((holds_printed_lines list_reading is_little entries source all holds).2 has_ended lines rest reads long)
checks_printed opening reading list_reading store is_little entries source findings (FailedRead why) all few holds (lines, each, (rest, failed, behind, are)) =
    absurd ((holds_printed_lines list_reading is_little entries source all holds).3 why (with_line_feeds lines ++ rest) failed)

-- ---- a source of a slice

pub slices_hold : (source : SliceSource) → Holds slice_reading source (slice_rest source)
slices_hold source = (
  λ pieces met some read. (
    (slice_rest met, slice-pieces source met pieces read),
    λ why cant.
        elim cant [
          | inl failed ↦ false≢true failed.0
          | inr fails ↦ fails.1
        ],
  ),
  λ pieces end some read. slice-end source end pieces read,
)

pub short_names_fit : ShortNamesFit
short_names_fit kind shape value name short = omega (arith, printed_length kind shape value name, short)
