-- Lemmas on the findings of lines and on the end of a list.
use Rattle.std.proofs.Common.{◌≡◌, ◌⊎◌, ℕ, Bool, true, List, [], ◌∷◌, ◌++◌, refl, sym, ap, subst, ◌∙◌, inl, inr, append-nil, append_assoc}
use Rattle.xxhsum_program.specs.Prelude.{AllByRecursion, Lacks, Pieces, Report, SourceRules, concat}
use Rattle.xxhsum_program.proofs.Prelude.{Endless, FailedRead, FailsAfter, Finding, HasRead, IsAtEnd, IsHeld, IsNext, IsRead, Lines, add_up, count_one, end_piece, reason_behind, source_of, waiting}
use Rattle.xxhsum_program.specs.declared.lines.Next.TheVariants as Variant
use Rattle.xxhsum_program.specs.CheckList.{EndsAs, EndsInLine, EndsWell, HasLines, ReadsSome, with_line_feeds}
use Rattle.xxhsum_program.proofs.EachFacts.{all-push}

pub add_up-push : (ignores : Bool) (report : Report) (findings : List Finding) (finding : Finding) → add_up ignores report (findings ++ finding ∷ []) ≡ count_one ignores (add_up ignores report findings) finding
add_up-push ignores report [] finding = refl
add_up-push ignores report (f ∷ fs) finding = add_up-push ignores (count_one ignores report f) fs finding

-- ---- the lines so far

-- A state in which these lines of a list were read, and the bytes after them are buffered.
abbrev pub Stands : {R X : Type 0} → SourceRules R → R → Lines R X → List (List ℕ) → Type 0
Stands reading source state lines =
    (done : List ℕ) × HasRead reading source done state
    × ((AllByRecursion (Lacks 10) lines × (done ≡ with_line_feeds lines)) ⊎ (IsAtEnd state × EndsInLine done lines))

pub stands-new : {R X : Type 0} (reading : SourceRules R) (source : R) (state : Lines R X) → HasRead reading source [] state → Stands reading source state []
stands-new reading source state read = ([], read, inl (tt, refl))

line-feeds-push : (lines : List (List ℕ)) (line : List ℕ) → with_line_feeds (lines ++ line ∷ []) ≡ with_line_feeds lines ++ line ++ 10 ∷ []
line-feeds-push [] line = refl
line-feeds-push (x ∷ xs) line =
    let before = with_line_feeds xs in
    ap (λ (r : List ℕ). x ++ 10 ∷ r) (line-feeds-push xs line) ∙ sym (append_assoc x (10 ∷ (before ++ line)) (10 ∷ [])) ∙ ap (λ (r : List ℕ). r ++ 10 ∷ []) (sym (append_assoc x (10 ∷ before) line))

-- Lemma: reading one more line appends it to the lines that were read.
stands-read : {R X : Type 0} (reading : SourceRules R) (source : R) (new : Lines R X) (lines : List (List ℕ)) (done line : List ℕ) → AllByRecursion (Lacks 10) lines × (done ≡ with_line_feeds lines) → Lacks 10 line → IsRead reading source done line new → Stands reading source new (lines ++ line ∷ [])
stands-read reading source new lines done line so_far lacks (inl read) =
    (done ++ line ++ 10 ∷ [], read, inl (all-push (Lacks 10) lines line so_far.0 lacks, ap (λ (d : List ℕ). d ++ line ++ 10 ∷ []) so_far.1 ∙ sym (line-feeds-push lines line)))
stands-read reading source new lines done line so_far lacks (inr (some, read, at_end)) =
    (done ++ line, read, inr (at_end, (lines, line, so_far.0, (lacks, some), ap (λ (d : List ℕ). d ++ line) so_far.1, refl)))

pub stands-line : {R X : Type 0} (reading : SourceRules R) (source : R) (old new : Lines R X) (lines : List (List ℕ)) → Stands reading source old lines → ((from : R) (done : List ℕ) → HasRead reading from done old → IsNext reading from done new Variant.Line) → (IsAtEnd old → Variant.Line ≡ Variant.End) → (line : List ℕ) × IsHeld line new × Stands reading source new (lines ++ line ∷ [])
stands-line reading source old new lines (done, read, inl so_far) next ended =
    let (line, lacks, held, is) = next source done read in
    (line, held, stands-read reading source new lines done line so_far lacks is)
stands-line reading source old new lines (done, read, inr so_far) next ended =
    let never = ended so_far.0 in cc

pub some-read : {R X : Type 0} (reading : SourceRules R) (source : R) (state : Lines R X) (lines : List (List ℕ)) → Stands reading source state lines → ReadsSome reading source lines
some-read reading source state lines (done, read, inl so_far) =
    (state.has_ended, waiting state, (read.0, source_of state.source, read.1, read.2, inl (so_far.0, read.3 ∙ ap (λ (d : List ℕ). d ++ waiting state) so_far.1)))
some-read reading source state lines (done, read, inr so_far) =
    let whole : concat read.0 ≡ done = read.3 ∙ ap (λ (w : List ℕ). done ++ w) so_far.0.1 ∙ append-nil done in
    (state.has_ended, [], (read.0, source_of state.source, read.1, read.2, inr (so_far.0.0, subst (λ (text : List ℕ). EndsInLine text lines) (sym whole) so_far.1, refl)))

-- ---- the end

at-end : {R X : Type 0} (reading : SourceRules R) (source : R) (done : List ℕ) (state : Lines R X) (lines : List (List ℕ)) → HasRead reading source done state → IsAtEnd state → HasLines true done lines [] → EndsWell reading source lines
at-end reading source done state lines read ended has =
    let whole : concat read.0 ≡ done = read.3 ∙ ap (λ (w : List ℕ). done ++ w) ended.1 ∙ append-nil done in
    (read.0, source_of state.source, read.1, subst (λ e. Pieces reading.gives source (read.0 ++ end_piece e) (source_of state.source)) ended.0 read.2, subst (λ (text : List ℕ). HasLines true text lines []) (sym whole) has)

pub ends-well : {R X : Type 0} (reading : SourceRules R) (source : R) (old new : Lines R X) (lines : List (List ℕ)) → Stands reading source old lines → ((from : R) (done : List ℕ) → HasRead reading from done old → IsNext reading from done new Variant.End) → EndsWell reading source lines
ends-well reading source old new lines (done, read, inl so_far) next =
    let end = next source done read in
    at-end reading source done new lines end.0 end.1 (inl (so_far.0, so_far.1 ∙ sym (append-nil (with_line_feeds lines))))
ends-well reading source old new lines (done, read, inr so_far) next =
    let end = next source done read in
    at-end reading source done new lines end.0 end.1 (inr (refl, so_far.1, refl))

pub breaks-endless : {R X : Type 0} (reading : SourceRules R) (source : R) (old new : Lines R X) (lines : List (List ℕ)) → Stands reading source old lines → ((from : R) (done : List ℕ) → HasRead reading from done old → IsNext reading from done new Variant.Endless) → (IsAtEnd old → Variant.Endless ≡ Variant.End) → EndsAs reading source lines Endless
breaks-endless reading source old new lines (done, read, inl so_far) next ended =
    let (removed, state, endless) = next source done read in
    let rest = removed ++ waiting new in
    let text : concat state.0 ≡ with_line_feeds lines ++ rest = state.3 ∙ append_assoc done removed (waiting new) ∙ ap (λ (d : List ℕ). d ++ rest) so_far.1 in
    (new.has_ended, rest, (state.0, source_of new.source, state.1, state.2, inl (so_far.0, text)), endless)
breaks-endless reading source old new lines (done, read, inr so_far) next ended =
    let never = ended so_far.0 in cc

pub breaks-failed : {R X : Type 0} (reading : SourceRules R) (source : R) (old new : Lines R X) (lines : List (List ℕ)) → Stands reading source old lines → ((from : R) (done : List ℕ) → HasRead reading from done old → IsNext reading from done new Variant.Failed) → (IsAtEnd old → Variant.Failed ≡ Variant.End) → EndsAs reading source lines (FailedRead (reason_behind reading new))
breaks-failed reading source old new lines (done, read, inl so_far) next ended =
    let (rest, failed, lacks) = next source done read in
    (rest, subst (λ (d : List ℕ). FailsAfter reading source (reason_behind reading new) (d ++ rest)) so_far.1 failed, lacks, so_far.0)
breaks-failed reading source old new lines (done, read, inr so_far) next ended =
    let never = ended so_far.0 in cc
