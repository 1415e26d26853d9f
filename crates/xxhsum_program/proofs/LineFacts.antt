-- Lemmas on the buffered bytes of a list, if bytes are taken from them or appended to them.
use Rattle.std.proofs.Common.{◌≡◌, ℕ, ◌+◌, ◌-◌, ◌<◌, ◌≤◌, ◌^◌, Bool, true, false, List, [], ◌∷◌, ◌++◌, length, length-append, take, drop, slice_range, slice_index, nat_eq, refl, sym, ap, ◌∙◌, subst, inl, inr, Some, None, Ok, Err, arith, append-nil, append_assoc, rules, if◌then◌else◌, IsErrAnd, Option, Result}
use Rattle.std.specs.List.{concat, copy_within}
use Rattle.xxhsum_program.specs.ListLines.{longest_line}
use Rattle.xxhsum_program.proofs.Prelude.{Failed, FailsAfter, IsFirstByte, Lacks, Lines, NoneEmpty, NoneEmpty-push, Pieces, Pieces-push, SourceRules, concat-push, end_piece, eqb_tells, is_byte, length-between, take-append-add}
use Rattle.std.proofs.lemmas.List.{take-take, take_at, take-append-le, drop-take, drop-drop, length-take-le, nil_from_length}
use borrow.Rule.Slice.PartMut.{put_mid}
use Rattle.xxhsum_line.proofs.LackFacts.{at_place, lacks_before, lacks_both, lacks_by_place}
use Rattle.xxhsum_program.specs.declared.lines.Next.TheVariants as Variant
use Rattle.xxhsum_program.specs.LinesView.{HasRead, IsAtEnd, IsBeforeLineFeed, IsHeld, IsNext, IsTaken, ReadsBehind, StopsAt, line_of, most_reads_left, reason_behind, waiting}

-- ---- parts of the buffered bytes

front-of : (xs : List ℕ) (start end n : ℕ) → start + n ≤ end → take n (slice_range xs start end) ≡ slice_range xs start (start + n)
front-of xs start end n within =
    let size : n ≡ start + n - start = omega arith in
    take-take n (end - start) (drop start xs) (omega arith) ∙ ap (λ k. take k (drop start xs)) size

rest-of : (xs : List ℕ) (start end n : ℕ) → start + n ≤ end → drop n (slice_range xs start end) ≡ slice_range xs (start + n) end
rest-of xs start end n within =
    let whole : end - start ≡ n + (end - (start + n)) = omega arith in
    ap (λ k. drop n (take k (drop start xs))) whole ∙ drop-take n (end - (start + n)) (drop start xs) ∙ ap (take (end - (start + n))) (drop-drop n start xs)

-- Lemma: the first newline of the buffered bytes ends the next line.
pub found_line_feed : {R X : Type 0} (lines : Lines R X) (found : Option ℕ) → lines.end ≤ length lines.buf → IsFirstByte (is_byte 10) (waiting lines) found → IsBeforeLineFeed found lines
found_line_feed lines None inside first =
    lacks_by_place 10 (waiting lines) (λ k lt e. first k (omega arith) lt (ap (λ x. is_byte 10 x) e))
found_line_feed lines (Some len) inside first =
    let w = waiting lines in
    let size : length (waiting lines) ≡ lines.end - lines.start = length-between lines.buf lines.start lines.end inside in
    let below : len < length (waiting lines) = first.0.high in
    let here : slice_index (waiting lines) len ≡ 10 = search rules in
    let lacks = lacks_before 10 w len (omega arith) (λ k lt e. first.0.before k (omega arith) lt (ap (λ x. is_byte 10 x) e)) in
    let front = front-of lines.buf lines.start lines.end len (omega arith) in
    let rest = rest-of lines.buf lines.start lines.end (len + 1) (omega arith) in
    (omega arith, subst (Lacks 10) front lacks, at_place w len 10 below here ∙ ap (λ x. x ++ 10 ∷ drop (len + 1) w) front ∙ ap (λ x. slice_range lines.buf lines.start (lines.start + len) ++ 10 ∷ x) rest)

-- ---- one more read

-- Lemma: the buffered bytes are moved to the front of the buffer.
pub moved : (xs ys : List ℕ) (start end len : ℕ) → start ≤ end → end ≤ length xs → len ≡ end - start → ys ≡ copy_within xs start end 0 → take len ys ≡ slice_range xs start end
moved xs ys start end len ordered inside is copied =
    let size : length (slice_range xs start end) ≡ len = length-between xs start end inside ∙ sym is in
    ap (take len) copied ∙ take_at (slice_range xs start end) (drop (0 + (end - start)) xs) len size

-- Lemma: a read appends its bytes to the buffered bytes.
pub put-behind : (xs w ys : List ℕ) (len room count : ℕ) → take len xs ≡ w → len ≤ length xs → count ≤ length ys → slice_range (put_mid len room xs ys) 0 (len + count) ≡ w ++ take count ys
put-behind xs w ys len room count is inside within =
    let after = drop room (drop len xs) in
    let size : len + count - 0 ≡ length (take len xs) + count = omega (arith, length-take-le len xs inside) in
    ap (λ k. take k (take len xs ++ (ys ++ after))) size
    ∙ take-append-add (take len xs) (ys ++ after) count
    ∙ ap (λ bytes. take len xs ++ bytes) (take-append-le count ys after within)
    ∙ ap (λ bytes. bytes ++ take count ys) is

pub reads-on : {R : Type 0} (reading : SourceRules R) (from old new : R) (done w piece : List ℕ) (ended : Bool) (count : ℕ) → ended ≡ false → length piece ≡ count
    → (pieces : List (List ℕ)) × NoneEmpty pieces × Pieces reading.gives from (pieces ++ end_piece ended) old × (concat pieces ≡ done ++ w)
    → reading.gives old piece new
    → (pieces : List (List ℕ)) × NoneEmpty pieces × Pieces reading.gives from (pieces ++ end_piece (nat_eq count 0)) new × (concat pieces ≡ done ++ (w ++ piece))
reads-on {R} reading from old new done w piece ended count going size read gave =
    let pieces = read.0 in
    let so_far : Pieces reading.gives from pieces old =
    subst (λ ps. Pieces reading.gives from ps old) (ap (λ e. pieces ++ end_piece e) going ∙ append-nil pieces) read.2 in
    elim (eqb_tells count 0) [
      | inl none ↦
          let empty : piece ≡ [] = nil_from_length piece (size ∙ none.1) in
          let text : concat pieces ≡ done ++ (w ++ piece) = read.3 ∙ ap (λ bytes. done ++ bytes) (sym (append-nil w) ∙ ap (λ bytes. w ++ bytes) (sym empty)) in
          rw (none.0) (pieces, read.1, subst (λ p. Pieces reading.gives from (pieces ++ p ∷ []) new) empty (Pieces-push reading.gives from old new pieces piece so_far gave), text)
      | inr some ↦
          let text : concat (pieces ++ piece ∷ []) ≡ done ++ (w ++ piece) = concat-push pieces piece ∙ ap (λ bytes. bytes ++ piece) read.3 ∙ append_assoc done w piece in
          let longer = pieces ++ piece ∷ [] in
          let above : 0 < length piece = omega (arith, some.1, size) in
          rw (some.0) (longer, NoneEmpty-push pieces piece read.1 above, subst (λ ps. Pieces reading.gives from ps new) (sym (append-nil longer)) (Pieces-push reading.gives from old new pieces piece so_far gave), text)
    ]

-- ---- the next line, end or error

-- Lemma: an error is the same for any type of result.
pub fails-alike : {R X U : Type 0} (reading : SourceRules R) (from : R) (done : List ℕ) (new : Lines R X) (e : Failed) (result : Result U Failed) → FailsAfter reading from (reason_behind reading new) (done ++ waiting new) × Lacks 10 (waiting new) → IsErrAnd result (λ f. f ≡ e) → ReadsBehind reading from done new result
fails-alike reading from done new e (Ok x) read is = absurd is
fails-alike reading from done new e (Err f) read is = read

moves-on : {R X : Type 0} (reading : SourceRules R) (from : R) (done taken : List ℕ) (old new : Lines R X) → HasRead reading from done old → new.source ≡ old.source → new.has_ended ≡ old.has_ended → waiting old ≡ taken ++ waiting new → HasRead reading from (done ++ taken) new
moves-on reading from done taken old new read source ended parts =
    let led = read.2 in
    let text : concat read.0 ≡ done ++ taken ++ waiting new = read.3 ∙ ap (λ bytes. done ++ bytes) parts ∙ sym (append_assoc done taken (waiting new)) in
    (read.0, read.1, rw (source, ended) led, text)

waiting-count : {R X : Type 0} (lines : Lines R X) → lines.end ≤ length lines.buf → length (waiting lines) ≡ lines.end - lines.start
waiting-count lines inside = length-between lines.buf lines.start lines.end inside

-- The line before the next buffered newline.
abbrev pub front_of : {R X : Type 0} → Lines R X → ℕ → List ℕ
front_of lines len = slice_range lines.buf lines.start (lines.start + len)

front-count : {R X : Type 0} (lines : Lines R X) (len : ℕ) → lines.end ≤ length lines.buf → StopsAt (Some len) lines → length (front_of lines len) ≡ len
front-count lines len inside stops =
    let size : length (front_of lines len) ≡ lines.start + len - lines.start = length-between lines.buf lines.start (lines.start + len) (omega (arith, stops.0, inside)) in
    omega (arith, size)

-- Lemma: the line and its newline are taken from the buffer.
line-taken : {R X : Type 0} (reading : SourceRules R) (from : R) (done : List ℕ) (old new : Lines R X) (len kept : ℕ) (is_long : Bool) → StopsAt (Some len) old → IsTaken kept (len + 1) is_long old new → HasRead reading from done old → HasRead reading from (done ++ front_of old len ++ 10 ∷ []) new
line-taken reading from done old new len kept is_long stops taken read =
    let front = front_of old len in
    let parts : waiting old ≡ (front ++ 10 ∷ []) ++ waiting new =
    stops.2 ∙ sym (append_assoc front (10 ∷ []) (slice_range old.buf (old.start + (len + 1)) old.end)) ∙ ap (λ bytes. front ++ 10 ∷ [] ++ bytes) (sym taken.3) in
    subst (λ bytes. HasRead reading from bytes new) (sym (append_assoc done front (10 ∷ []))) (moves-on reading from done (front ++ 10 ∷ []) old new read taken.1 taken.2 parts)

pub comes-line : {R X : Type 0} (reading : SourceRules R) (from : R) (done : List ℕ) (old new : Lines R X) (len : ℕ) → old.end ≤ length old.buf → len ≤ longest_line → StopsAt (Some len) old → IsTaken len (len + 1) false old new → HasRead reading from done old → IsNext reading from done new Variant.Line
comes-line reading from done old new len inside short stops taken read =
    let size = front-count old len inside stops in
    let held : IsHeld (front_of old len) new = rw taken.4 (omega (arith, size, short), taken.0) in
    (front_of old len, stops.1, held, inl (line-taken reading from done old new len len false stops taken read))

pub comes-long-line : {R X : Type 0} (reading : SourceRules R) (from : R) (done : List ℕ) (old new : Lines R X) (len : ℕ) → old.end ≤ length old.buf → longest_line < len → StopsAt (Some len) old → IsTaken 0 (len + 1) true old new → HasRead reading from done old → IsNext reading from done new Variant.Line
comes-long-line reading from done old new len inside long stops taken read =
    let size = front-count old len inside stops in
    let held : IsHeld (front_of old len) new = rw taken.4 (omega (arith, size, long)) in
    (front_of old len, stops.1, held, inl (line-taken reading from done old new len 0 true stops taken read))

pub comes-last-line : {R X : Type 0} (reading : SourceRules R) (from : R) (done : List ℕ) (old new : Lines R X) (len : ℕ) → old.end ≤ length old.buf → len ≡ old.end - old.start → 0 < len → len ≤ longest_line → StopsAt None old → IsTaken len len false old new → HasRead reading from done old → IsNext reading from done new Variant.Line
comes-last-line reading from done old new len inside is some short stops taken read =
    let end : old.start + len ≡ old.end = omega (arith, is, some) in
    let whole : line_of new ≡ waiting old = taken.0 ∙ ap (λ k. slice_range old.buf old.start k) end in
    let size : length (line_of new) ≡ old.end - old.start = ap length whole ∙ waiting-count old inside in
    let none : waiting new ≡ [] = nil_from_length (waiting new) (ap length taken.3 ∙ length-between old.buf (old.start + len) old.end inside ∙ omega (arith, end)) in
    let parts : waiting old ≡ line_of new ++ waiting new = sym whole ∙ sym (append-nil (line_of new)) ∙ ap (λ bytes. line_of new ++ bytes) (sym none) in
    let ended : new.has_ended ≡ true = taken.2 ∙ elim stops.1 [ inl e ↦ e | inr long ↦ absurd (omega (arith, long, is, short)) ] in
    let held : IsHeld (line_of new) new = rw taken.4 (omega (arith, size, is, short), refl) in
    let read_all = moves-on reading from done (line_of new) old new read taken.1 taken.2 parts in
    (line_of new, subst (Lacks 10) (sym whole) stops.0, held, inr (omega (arith, size, is, some), read_all, (ended, none)))

pub not-at-end : {R X : Type 0} (lines : Lines R X) → lines.end ≤ length lines.buf → 0 < lines.end - lines.start → IsAtEnd lines → ⊥
not-at-end lines inside some at_end =
    let none : length (waiting lines) ≡ 0 = ap length at_end.1 in
    let size = waiting-count lines inside in
    omega (arith, none, size, some)

-- ---- a line that is too long

-- An unfinished line after `done`, of over 32,767 dropped or buffered bytes. Each of `reads` returned some, or the end.
abbrev pub IsInside : {R X : Type 0} → SourceRules R → R → List ℕ → ℕ → Lines R X → Type 0
IsInside reading from done reads lines =
    (removed : List ℕ) × HasRead reading from (done ++ removed) lines × Lacks 10 (removed ++ waiting lines)
    × (longest_line < length (removed ++ waiting lines))
    × (reads ≤ length (removed ++ waiting lines) + (if lines.has_ended then 1 else 0))

pub inside-new : {R X : Type 0} (reading : SourceRules R) (from : R) (done : List ℕ) (lines : Lines R X) → lines.end ≤ length lines.buf
    → longest_line < lines.end - lines.start → Lacks 10 (waiting lines) → HasRead reading from done lines → IsInside reading from done 0 lines
inside-new reading from done lines inside long lacks read =
    let size = waiting-count lines inside in
    ([], subst (λ bytes. HasRead reading from bytes lines) (sym (append-nil done)) read, lacks, omega (arith, size, long), omega arith)

-- A line after `done` that is too long and whose bytes were all dropped.
abbrev pub IsEmptied : {R X : Type 0} → SourceRules R → R → List ℕ → ℕ → Lines R X → Type 0
IsEmptied reading from done reads lines =
    (removed : List ℕ) × HasRead reading from (done ++ removed) lines × Lacks 10 removed × (longest_line < length removed)
    × (reads ≤ length removed + (if lines.has_ended then 1 else 0))

pub none-waits : {R X : Type 0} (old new : Lines R X) → old.start ≤ old.end → old.end ≤ length old.buf → IsTaken 0 (old.end - old.start) true old new → waiting new ≡ []
none-waits old new ordered inside taken =
    nil_from_length (waiting new) (ap length taken.3 ∙ length-between old.buf (old.start + (old.end - old.start)) old.end inside ∙ omega (arith, ordered))

pub emptied : {R X : Type 0} (reading : SourceRules R) (from : R) (done : List ℕ) (reads : ℕ) (old new : Lines R X) → old.start ≤ old.end → old.end ≤ length old.buf → IsTaken 0 (old.end - old.start) true old new → IsInside reading from done reads old → IsEmptied reading from done reads new
emptied reading from done reads old new ordered inside taken (removed, read, lacks, long, most) =
    let none = none-waits old new ordered inside taken in
    let parts : waiting old ≡ waiting old ++ waiting new = sym (append-nil (waiting old)) ∙ ap (λ bytes. waiting old ++ bytes) (sym none) in
    let all = subst (λ bytes. HasRead reading from bytes new) (append_assoc done removed (waiting old)) (moves-on reading from (done ++ removed) (waiting old) old new read taken.1 taken.2 parts) in
    (removed ++ waiting old, all, lacks, long, rw taken.2 most)

-- Lemma: the line is complete if it is the last one.
pub inside-ends : {R X : Type 0} (reading : SourceRules R) (from : R) (done : List ℕ) (reads : ℕ) (lines : Lines R X) → lines.is_long ≡ true
    → lines.has_ended ≡ true → waiting lines ≡ [] → IsEmptied reading from done reads lines → IsNext reading from done lines Variant.Line
inside-ends reading from done reads lines is_long ended none (removed, read, lacks, long, most) =
    let held : IsHeld removed lines = rw is_long long in
    (removed, lacks, held, inr (omega (arith, long), read, (ended, none)))

-- Lemma: the next result is an error if a read fails in the line.
pub inside-fails : {R X : Type 0} (reading : SourceRules R) (from : R) (done : List ℕ) (reads : ℕ) (e : Failed) (old new : Lines R X) → IsEmptied reading from done reads old → ((from : R) (done : List ℕ) → HasRead reading from done old → ReadsBehind {T = Unit {0}} reading from done new (Err e)) → IsNext reading from done new Variant.Failed
inside-fails reading from done reads e old new (removed, read, lacks, long, most) behind =
    let failed = behind from (done ++ removed) read in
    (removed ++ waiting new, subst (λ bytes. FailsAfter reading from (reason_behind reading new) bytes) (append_assoc done removed (waiting new)) failed.0, lacks_both 10 removed (waiting new) lacks failed.1)

-- Lemma: the line is complete after a read that returns its newline.
pub inside-found : {R X : Type 0} (reading : SourceRules R) (from : R) (done : List ℕ) (reads len : ℕ) (old mid new : Lines R X) → IsEmptied reading from done reads old → ((from : R) (done : List ℕ) → HasRead reading from done old → HasRead reading from done mid) → StopsAt (Some len) mid → IsTaken 0 (len + 1) true mid new → IsNext reading from done new Variant.Line
inside-found reading from done reads len old mid new (removed, read, lacks, long, most) behind stops taken =
    let front = front_of mid len in
    let line = removed ++ front in
    let size : length (removed ++ front) ≡ length removed + length front = length-append removed front in
    let held : IsHeld line new = rw taken.4 (omega (arith, size, long)) in
    let all = line-taken reading from (done ++ removed) mid new len 0 true stops taken (behind from (done ++ removed) read) in
    (line, lacks_both 10 removed front lacks stops.1, held, inl (subst (λ bytes. HasRead reading from (bytes ++ 10 ∷ []) new) (append_assoc done removed front) all))

one-more : (ended : Bool) (count : ℕ) → (if ended then 0 else 1) + (65536 - count) < 65537 → 1 ≤ count + (if ended then 1 else 0)
one-more true count less = omega arith
one-more false count less = omega (arith, less)

-- Lemma: the line is not complete after a read that returns no newline.
pub inside-goes-on : {R X : Type 0} (reading : SourceRules R) (from : R) (done : List ℕ) (reads : ℕ) (old new : Lines R X) → old.has_ended ≡ false → old.end - old.start ≡ 0 → new.end ≤ length new.buf → IsEmptied reading from done reads old → ((from : R) (done : List ℕ) → HasRead reading from done old → HasRead reading from done new) → most_reads_left new < most_reads_left old → Lacks 10 (waiting new) → IsInside reading from done (reads + 1) new
inside-goes-on reading from done reads old new going none inside (removed, read, lacks, long, most) behind fewer lacks_new =
    let so_far : reads ≤ length removed + 0 = rw going at most in
    let left : most_reads_left old ≡ 65537 = rw (going, none) refl in
    let size = waiting-count new inside in
    let more : 1 ≤ new.end - new.start + (if new.has_ended then 1 else 0) = one-more new.has_ended (new.end - new.start) (rw left at fewer) in
    let parts : length (removed ++ waiting new) ≡ length removed + length (waiting new) = length-append removed (waiting new) in
    (removed, behind from (done ++ removed) read, lacks_both 10 removed (waiting new) lacks lacks_new, omega (arith, parts, long), omega (arith, parts, size, so_far, more))

one-less : (ended : Bool) (count : ℕ) → 2 ^ 64 - 1 ≤ count + (if ended then 1 else 0) → 2 ^ 64 - 2 ≤ count
one-less true count most = omega (arith, most)
one-less false count most = omega (arith, most)

-- Lemma: the line is endless after as many reads as can be counted.
pub inside-endless : {R X : Type 0} (reading : SourceRules R) (from : R) (done : List ℕ) (reads : ℕ) (lines : Lines R X) → 2 ^ 64 - 1 ≤ reads → IsInside reading from done reads lines → IsNext reading from done lines Variant.Endless
inside-endless reading from done reads lines many (removed, read, lacks, long, most) =
    (removed, read, (lacks, one-less lines.has_ended (length (removed ++ waiting lines)) (omega (arith, many, most))))
